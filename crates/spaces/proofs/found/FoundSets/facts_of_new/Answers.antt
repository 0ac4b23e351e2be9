use Rattle.std.proofs.Common.{◌<◌, ◌+◌, ◌^◌, IfOk, ℕ, length, sym, subst, arith}
use Rattle.std.proofs.lemmas.List.{length-map}
use Rattle.std.proofs.lemmas.Result.{IfOk-weaker}
use Rattle.std.specs.declared.vec.Vec.{Vec}
use Rattle.tau_closures.specs.Looks.{look, AllBelow}
use Rattle.tau_closures.specs.Numbered.{Numbered}
use Rattle.spaces.specs.declared.facts.SetFacts.{SetFacts}
use Rattle.spaces.specs.Found.{Found}
use Rattle.spaces.specs.Known.{AreFactsOf}
use Rattle.spaces.proofs.found.FoundSets.facts_of_new.Goals as goal

pub facts_of-requires : goal.facts_of-requires
facts_of-requires g c =
    subst (λ (a : Numbered). AllBelow (length a.table.processes) c.args.numbers.now) (sym c.all.ensures)
    (subst (λ (f : Found). AllBelow (length f.table.processes) c.args.numbers.now) (sym c.self.view_is) c.requires)

pub returns-clause-facts : goal.returns-clause-facts
returns-clause-facts g c =
    subst (λ (f : Found). IfOk c.facts_of.result (λ (facts : SetFacts g.row.A.Denot). AreFactsOf facts (look f.table.processes c.args.numbers.now))) c.self.view_is
    (subst (λ (a : Numbered). IfOk c.facts_of.result (λ (facts : SetFacts g.row.A.Denot). AreFactsOf facts (look a.table.processes c.args.numbers.now))) c.all.ensures c.facts_of.ensures)

pub returns-clause-few : goal.returns-clause-few
returns-clause-few g c =
    let few : length c.self.inside.sets.entries + 1 < 2 ^ 32 = omega (arith, c.len.ensures.len) in
    IfOk-weaker c.facts_of.result _ _
    (λ (facts : SetFacts g.row.A.Denot) k.
    subst (λ (f : Found). length f.sets + 1 < 2 ^ 32) c.self.view_is
    (omega (arith, few, length-map c.self.inside.sets.entries (λ (x : Vec ℕ g.row.A.Denot × SetFacts g.row.A.Denot). x.0.items))))
    c.facts_of.ensures
