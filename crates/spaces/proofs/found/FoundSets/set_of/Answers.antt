use Rattle.std.proofs.Common.{◌≡◌, ◌<◌, ℕ, length, sym, ◌∙◌, subst}
use Rattle.tau_closures.specs.Looks.{look}
use Rattle.spaces.specs.Found.{Found, HasList, members, shown}
use Rattle.spaces.specs.Known.{found}
use Rattle.spaces.proofs.Entering.{found-list, has-list, no-list}
use Rattle.spaces.proofs.found.FoundSets.set_of.Goals as goal

pub returns-in-Some-clause-found : goal.returns-in-Some-clause-found
returns-in-Some-clause-found g c =
    let ns = c.args.list.now in
    let k = c.in-Some.place in
    let here = found-list c.self.inside.sets.entries ns k (sym c.get_index_of.ensures.index ∙ c.in-Some.is) in
    subst (λ (n : ℕ). HasList (shown c.args.self.now) (look c.args.self.now.table.processes ns) n) (sym c.at.ensures)
    (subst (λ (f : Found). HasList (shown f) (look f.table.processes ns) k) c.self.view_is
    (has-list (found c.self.inside.spec c.self.inside.states c.self.inside.sets.entries) ns k here.0 here.1))

pub returns-in-None-clause-absent : goal.returns-in-None-clause-absent
returns-in-None-clause-absent g c =
    subst (λ (f : Found). (k : ℕ) → k < length f.sets → members f k ≡ c.args.list.now → ⊥) c.self.view_is
    (no-list c.self.inside.sets.entries c.args.list.now (sym c.get_index_of.ensures.index ∙ c.in-None.is))
