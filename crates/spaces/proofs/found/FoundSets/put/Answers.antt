use Rattle.std.proofs.Common.{List, ℕ, length, sym, ◌∙◌, subst}
use Rattle.std.proofs.lemmas.Result.{IfOk-weaker}
use Rattle.tau_closures.specs.Looks.{look, AllBelow}
use Rattle.spaces.specs.Found.{HasList, shown}
use Rattle.spaces.specs.Known.{AreFactsOf}
use Rattle.spaces.proofs.Entering.{has-members}
use Rattle.spaces.proofs.Growing.{grew-same}
use Rattle.spaces.proofs.Members.{below-permuted, look-permuted, shallow-permuted}
use Rattle.spaces.proofs.found.FoundSets.put.Goals as goal

pub returns-in-Some-clause-set : goal.returns-in-Some-clause-set
returns-in-Some-clause-set g c =
    let ps = c.args.self.now.table.processes in
    let ns = c.args.numbers.items in
    let ms = c.sort_unstable.new.self.items in
    has-members (shown c.args.self.now) ps ns ms c.in-Some.set (look-permuted ns ms c.sort_unstable.ensures.permutation ps)
    (subst (λ (l : List ℕ). HasList (shown c.args.self.now) (look ps l) c.in-Some.set) c.deref.ensures.value c.in-Some.ensures.found)

pub returns-in-Some-clause-grown : goal.returns-in-Some-clause-grown
returns-in-Some-clause-grown g c = grew-same (shown c.args.self.now)

pub put_new-requires-clause-below : goal.put_new-requires-clause-below
put_new-requires-clause-below g c = below-permuted c.args.numbers.items c.sort_unstable.new.self.items c.sort_unstable.ensures.permutation _ c.requires.below

pub put_new-requires-clause-shallow : goal.put_new-requires-clause-shallow
put_new-requires-clause-shallow g c = shallow-permuted c.args.numbers.items c.sort_unstable.new.self.items c.sort_unstable.ensures.permutation c.args.self.now.table.processes c.requires.shallow

pub put_new-requires-clause-new : goal.put_new-requires-clause-new
put_new-requires-clause-new g c = λ k h e. c.in-None.ensures.absent k h (e ∙ sym c.deref.ensures.value)

pub facts_of_new-requires : goal.facts_of_new-requires
facts_of_new-requires g c =
    subst (λ (ns : List ℕ). AllBelow (length c.args.self.now.table.processes) ns) (sym c.deref-in-None.ensures.value)
    (below-permuted c.args.numbers.items c.sort_unstable.new.self.items c.sort_unstable.ensures.permutation _ c.requires.below)

pub put_new-requires-clause-facts : goal.put_new-requires-clause-facts
put_new-requires-clause-facts g c = subst (λ (ns : List ℕ). AreFactsOf c.in-Ok.facts (look c.args.self.now.table.processes ns)) c.deref-in-None.ensures.value c.in-Ok.ensures.facts

pub returns-in-Ok-clause-set : goal.returns-in-Ok-clause-set
returns-in-Ok-clause-set g c =
    let ps = c.args.self.now.table.processes in
    let ns = c.args.numbers.items in
    let ms = c.sort_unstable.new.self.items in
    IfOk-weaker c.put_new.result _ _ (λ set h. has-members (shown c.put_new.new.self) ps ns ms set (look-permuted ns ms c.sort_unstable.ensures.permutation ps) h) c.put_new.ensures.set
