use Rattle.std.proofs.Common.{◌≡◌, ◌<◌, ◌∷◌, ◌++◌, [], List, ℕ, IfErr, IfNone, IfOk, IfSome, OnOk, length, sym, ap, ◌∙◌, subst, arith}
use Rattle.std.proofs.lemmas.List.{length-map}
use Rattle.std.specs.declared.vec.Vec.{Vec}
use Rattle.alphabet.specs.declared.events.Event.{Event}
use Rattle.term.specs.Meaning.{Trace}
use Rattle.term.specs.Proc.{Proc, bodies_of, root}
use Rattle.tau_closures.specs.Closing.{AllShallow}
use Rattle.tau_closures.specs.KeptBelonging.{KeptBelongs}
use Rattle.tau_closures.specs.Limits.{EventMeets, EventMeetsNone}
use Rattle.tau_closures.specs.Looks.{look, AllBelow}
use Rattle.tau_closures.specs.Unfolding.{unfolding_depth}
use Rattle.spaces.specs.declared.facts.SetFacts.{SetFacts}
use Rattle.spaces.specs.Found.{Found, shown}
use Rattle.spaces.specs.Known.{AreOf, found, lists_of}
use Rattle.spaces.specs.Spaces.{Belongs, GrewFrom, states}
use Rattle.spaces.proofs.Growing.{areof-on, shown-at, sound-on, sound-below, sound-shallow, table-grew}
use Rattle.spaces.proofs.found.FoundSets.states_after.Goals as goal
use Rattle.spaces.proofs.found.FoundSets.states_after.Goals.{After-numbers_of-numbers}

pub numbers_of-numbers-requires : goal.numbers_of-numbers-requires
numbers_of-numbers-requires g c =
    let es = c.self.inside.sets.entries in
    let h : c.args.set < length (shown (found c.self.inside.spec c.self.inside.states es)).sets = subst (λ (f : Found). c.args.set < length (shown f).sets) (sym c.self.view_is) c.requires.1.within in
    omega (arith, h, length-map es (λ (x : Vec ℕ g.row.A.Denot × SetFacts g.row.A.Denot). x.0.items), length-map (lists_of es) (look c.self.inside.states.all.table.processes))

module _ (g : _) (c : After-numbers_of-numbers g) where
  within : c.args.set < length c.self.inside.sets.entries
  within =
      let es = c.self.inside.sets.entries in
      let h : c.args.set < length (shown (found c.self.inside.spec c.self.inside.states es)).sets = subst (λ (f : Found). c.args.set < length (shown f).sets) (sym c.self.view_is) c.requires.1.within in
      omega (arith, h, length-map es (λ (x : Vec ℕ g.row.A.Denot × SetFacts g.row.A.Denot). x.0.items), length-map (lists_of es) (look c.self.inside.states.all.table.processes))

  begun : AreOf c.self.inside.spec c.self.inside.states
  begun = c.self.invariant.begun (omega (arith, within))

  -- the numbers are those of the set's members
  listed : look c.self.inside.states.all.table.processes c.numbers_of-numbers.result.now ≡ states (shown c.args.self.now) c.args.set
  listed =
      let es = c.self.inside.sets.entries in
      let w : c.args.set < length (lists_of es) = omega (arith, within, length-map es (λ (x : Vec ℕ g.row.A.Denot × SetFacts g.row.A.Denot). x.0.items)) in
      ap (look c.self.inside.states.all.table.processes) c.numbers_of-numbers.ensures
      ∙ sym (shown-at (found c.self.inside.spec c.self.inside.states es) c.args.set w)
      ∙ ap (λ (f : Found). states (shown f) c.args.set) c.self.view_is

  -- so the list belongs to what the set does
  belongs : (u : List Event) → Belongs (shown c.args.self.now) c.args.set u → KeptBelongs c.self.inside.spec (unfolding_depth c.self.inside.spec) (look c.self.inside.states.all.table.processes c.numbers_of-numbers.result.now) u
  belongs u b =
      subst (λ (ps : List Proc). KeptBelongs c.self.inside.spec (unfolding_depth c.self.inside.spec) ps u) (sym listed)
      (subst (λ (f : Found). KeptBelongs f.spec (unfolding_depth f.spec) (states (shown c.args.self.now) c.args.set) u) (sym c.self.view_is) b.exact)

  shallow : AllShallow (look c.self.inside.states.all.table.processes c.numbers_of-numbers.result.now)
  shallow =
      subst (λ (ns : List ℕ). AllShallow (look c.self.inside.states.all.table.processes ns)) (sym c.numbers_of-numbers.ensures)
      (sound-shallow c.self.inside.spec c.self.inside.sets.entries c.self.inside.states c.self.invariant c.args.set within)

pub advance-requires-clause-closed : goal.advance-requires-clause-closed
advance-requires-clause-closed g c = c.self.invariant.closed

pub advance-requires-clause-bodies : goal.advance-requires-clause-bodies
advance-requires-clause-bodies g c = (begun g (goal.at.advance-requires-clause-bodies g c).After-numbers_of-numbers).0

pub advance-requires-clause-deep : goal.advance-requires-clause-deep
advance-requires-clause-deep g c = (begun g (goal.at.advance-requires-clause-deep g c).After-numbers_of-numbers).1

pub advance-requires-clause-here : goal.advance-requires-clause-here
advance-requires-clause-here g c =
    let a = (goal.at.advance-requires-clause-here g c).After-numbers_of-numbers in
    subst (λ (ns : List ℕ). AllBelow (length c.self.inside.states.all.table.processes) ns) (sym c.numbers_of-numbers.ensures)
    (sound-below c.self.inside.spec c.self.inside.sets.entries c.self.inside.states c.self.invariant c.args.set (within g a))

pub advance-requires-clause-shallow : goal.advance-requires-clause-shallow
advance-requires-clause-shallow g c = shallow g (goal.at.advance-requires-clause-shallow g c).After-numbers_of-numbers

pub advance-requires-clause-set : goal.advance-requires-clause-set
advance-requires-clause-set g c = (c.requires.0, belongs g (goal.at.advance-requires-clause-set g c).After-numbers_of-numbers c.requires.0 c.requires.1)

pub invariant_of-self : goal.invariant_of-self
invariant_of-self g c = sound-on c.self.inside.spec c.self.inside.sets.entries c.self.inside.states c.advance.new.states c.self.invariant c.advance.ensures.kept

pub returns-clause-begun : goal.returns-clause-begun
returns-clause-begun g c = areof-on c.self.inside.spec c.self.inside.states c.advance.new.states c.advance.ensures.kept (begun g (goal.at.returns-clause-begun g c).After-numbers_of-numbers)

pub returns-clause-none : goal.returns-clause-none
returns-clause-none g c =
    let a = (goal.at.returns-clause-none g c).After-numbers_of-numbers in
    λ u b. subst (λ (f : Found). IfOk c.advance.result (λ next. IfNone next (Trace (bodies_of f.spec.bodies) root (u ++ c.args.event ∷ []) → ⊥))) c.self.view_is
    (c.advance.ensures.none u (belongs g a u b))

pub returns-clause-some : goal.returns-clause-some
returns-clause-some g c =
    let a = (goal.at.returns-clause-some g c).After-numbers_of-numbers in
    let qs = c.advance.new.states.all.table.processes in
    λ u b. subst (λ (f : Found). IfOk c.advance.result (λ next. IfSome next (λ list. Trace (bodies_of f.spec.bodies) root (u ++ c.args.event ∷ []) × KeptBelongs f.spec (unfolding_depth f.spec) (look qs list.items) (u ++ c.args.event ∷ [])))) c.self.view_is
    (c.advance.ensures.some u (belongs g a u b))

pub returns-clause-within : goal.returns-clause-within
returns-clause-within g c =
    let a = (goal.at.returns-clause-within g c).After-numbers_of-numbers in
    λ u b. subst (λ (f : Found). OnOk c.advance.result (EventMeetsNone f.spec u c.args.event)) c.self.view_is (c.advance.ensures.within u (belongs g a u b))

pub returns-clause-limit : goal.returns-clause-limit
returns-clause-limit g c =
    let a = (goal.at.returns-clause-limit g c).After-numbers_of-numbers in
    λ u b. subst (λ (f : Found). IfErr c.advance.result (EventMeets f.spec u c.args.event)) c.self.view_is (c.advance.ensures.limit u (belongs g a u b))

pub returns-clause-grown : goal.returns-clause-grown
returns-clause-grown g c =
    subst (λ (f : Found). GrewFrom (shown f) (shown (found c.self.inside.spec c.advance.new.states c.self.inside.sets.entries))) c.self.view_is
    (table-grew c.self.inside.spec c.self.inside.states c.advance.new.states c.self.inside.sets.entries c.self.invariant.stored c.advance.ensures.kept)
