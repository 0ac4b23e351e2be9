use Rattle.std.proofs.Common.{◌≡◌, ◌<◌, ◌≤◌, Some, ℕ, length, slice_get, subst, arith}
use Rattle.std.proofs.lemmas.List.{length-map}
use Rattle.std.specs.declared.vec.Vec.{Vec}
use Rattle.tau_closures.specs.Looks.{look}
use Rattle.spaces.specs.declared.facts.SetFacts.{SetFacts}
use Rattle.spaces.specs.Found.{Found, shown}
use Rattle.spaces.specs.Known.{AreFactsOf, lists_of}
use Rattle.spaces.specs.Spaces.{states}
use Rattle.spaces.proofs.Entering.{facts-at}
use Rattle.spaces.proofs.found.FoundSets.facts.Goals as goal

pub returns-in-Some-clause-known : goal.returns-in-Some-clause-known
returns-in-Some-clause-known g c =
    let es = c.self.inside.sets.entries in
    let e : Some (c.in-Some.field-0-0.now, c.in-Some.facts.now) ≡ slice_get es c.number.result = rw c.in-Some.is at c.get_index.ensures.entry in
    subst (λ (k : ℕ). AreFactsOf c.in-Some.facts.now (states (shown c.args.self.now) k)) c.number.ensures
    (subst (λ (f : Found). AreFactsOf c.in-Some.facts.now (states (shown f) c.number.result)) c.self.view_is
    (facts-at c.self.inside.spec c.self.inside.states es c.number.result (c.in-Some.field-0-0.now, c.in-Some.facts.now) c.self.invariant e))

pub returns-in-None-clause-none : goal.returns-in-None-clause-none
returns-in-None-clause-none g c =
    let es = c.self.inside.sets.entries in
    let past : c.number.result < length es → ⊥ = λ h. let none = rw c.in-None.is at (c.get_index.ensures.found.1 h) in absurd (cc) in
    subst (λ (f : Found). length (shown f).sets ≤ c.args.set) c.self.view_is
    (omega (arith, past, c.number.ensures, length-map es (λ (x : Vec ℕ g.row.A.Denot × SetFacts g.row.A.Denot). x.0.items), length-map (lists_of es) (look c.self.inside.states.all.table.processes)))
