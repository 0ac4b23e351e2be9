use Rattle.std.proofs.Common.{◌≡◌, ◌+◌, ◌++◌, ◌∷◌, [], ◌<◌, ◌^◌, List, ℕ, length, sym, ◌∙◌, subst, arith}
use Rattle.std.proofs.lemmas.List.{length-map}
use Rattle.std.specs.declared.vec.Vec.{Vec}
use Rattle.tau_closures.specs.Looks.{look, AllBelow}
use Rattle.tau_closures.specs.Closing.{AllShallow}
use Rattle.spaces.specs.declared.facts.SetFacts.{SetFacts}
use Rattle.spaces.specs.Found.{Found, HasBegun, HasList, members, shown}
use Rattle.spaces.specs.Known.{AreFactsOf, IsSound, IsStored, found}
use Rattle.spaces.specs.Spaces.{GrewFrom}
use Rattle.spaces.proofs.Entering.{entries-more, new-list, sets-grew, sound-push}
use Rattle.spaces.proofs.found.FoundSets.put_new.Goals as goal
use Rattle.spaces.proofs.found.FoundSets.put_new.Goals.{In_ok-insert}

pub invariant_of-self : goal.invariant_of-self
invariant_of-self g c =
    subst (λ (es : List (Vec ℕ g.row.A.Denot × SetFacts g.row.A.Denot)). IsSound c.self.inside.spec c.self.inside.states es) (sym c.in_err-insert.ensures.err) c.self.invariant

module _ (g : _) (c : In_ok-insert g) where
  entries : c.insert.new.self.entries ≡ c.self.inside.sets.entries ++ (c.args.list, c.args.facts) ∷ []
  entries =
      entries-more c.self.inside.sets c.insert.new.self.entries c.args.list c.args.facts
      (subst (λ (f : Found). (k : ℕ) → k < length f.sets → members f k ≡ c.args.list.items → ⊥) (sym c.self.view_is) c.requires.new)
      c.in_ok-insert.ensures.entries

  stored : IsStored c.self.inside.states.all.table.processes (c.args.list, c.args.facts)
  stored =
      record {
        below = subst (λ (f : Found). AllBelow (length f.table.processes) c.args.list.items) (sym c.self.view_is) c.requires.below;
        shallow = subst (λ (f : Found). AllShallow (look f.table.processes c.args.list.items)) (sym c.self.view_is) c.requires.shallow;
        facts = subst (λ (f : Found). AreFactsOf c.args.facts (look f.table.processes c.args.list.items)) (sym c.self.view_is) c.requires.facts;
      }

pub invariant_of-self-2 : goal.invariant_of-self-2
invariant_of-self-2 g c =
    let a = (goal.at.invariant_of-self-2 g c).In_ok-insert in
    let h : length (found c.self.inside.spec c.self.inside.states c.self.inside.sets.entries).sets + 1 < 2 ^ 32 = subst (λ (f : Found). length f.sets + 1 < 2 ^ 32) (sym c.self.view_is) c.requires.few in
    let few : length c.self.inside.sets.entries + 1 < 2 ^ 32 = omega (arith, h, length-map c.self.inside.sets.entries (λ (x : Vec ℕ g.row.A.Denot × SetFacts g.row.A.Denot). x.0.items)) in
    subst (λ (es : List (Vec ℕ g.row.A.Denot × SetFacts g.row.A.Denot)). IsSound c.self.inside.spec c.self.inside.states es) (sym (entries g a))
    (sound-push c.self.inside.spec c.self.inside.sets.entries c.args.list c.args.facts c.self.inside.states (subst (λ (f : Found). HasBegun f) (sym c.self.view_is) c.requires.begun) c.self.invariant few (stored g a))

pub returns-clause-set : goal.returns-clause-set
returns-clause-set g c =
    let a = (goal.at.returns-clause-set g c).In_ok-insert in
    subst (λ (f : Found). HasList (shown (found c.self.inside.spec c.self.inside.states c.insert.new.self.entries)) (look f.table.processes c.args.list.items) c.at.result) c.self.view_is
    (subst (λ (es : List (Vec ℕ g.row.A.Denot × SetFacts g.row.A.Denot)). HasList (shown (found c.self.inside.spec c.self.inside.states es)) (look c.self.inside.states.all.table.processes c.args.list.items) c.at.result) (sym (entries g a))
    (new-list c.self.inside.spec c.self.inside.sets.entries c.args.list c.args.facts c.self.inside.states c.at.result (c.at.ensures ∙ c.len-number.ensures.len)))

pub returns-clause-grown : goal.returns-clause-grown
returns-clause-grown g c =
    let a = (goal.at.returns-clause-grown g c).In_ok-insert in
    subst (λ (f : Found). GrewFrom (shown f) (shown (found c.self.inside.spec c.self.inside.states c.insert.new.self.entries))) c.self.view_is
    (subst (λ (es : List (Vec ℕ g.row.A.Denot × SetFacts g.row.A.Denot)). GrewFrom (shown (found c.self.inside.spec c.self.inside.states c.self.inside.sets.entries)) (shown (found c.self.inside.spec c.self.inside.states es))) (sym (entries g a))
    (sets-grew c.self.inside.spec c.self.inside.sets.entries c.args.list c.args.facts c.self.inside.states))
