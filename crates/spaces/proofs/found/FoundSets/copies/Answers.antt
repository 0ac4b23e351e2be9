use Rattle.std.proofs.Common.{◌≡◌, ◌<◌, ◌↔◌, List, ℕ, length, sym, ap, ◌∙◌, subst, arith}
use Rattle.std.proofs.lemmas.List.{length-map}
use Rattle.std.specs.declared.vec.Vec.{Vec}
use Rattle.term.specs.Proc.{Proc}
use Rattle.term.specs.Specs.{Specified}
use Rattle.term.specs.Traces.{In}
use Rattle.tau_closures.specs.Looks.{look, AllBelow}
use Rattle.tau_closures.specs.Closing.{AllShallow}
use Rattle.tau_closures.specs.Unfolding.{unfolding_depth}
use Rattle.spaces.specs.declared.facts.SetFacts.{SetFacts}
use Rattle.spaces.specs.Found.{Found, shown}
use Rattle.spaces.specs.Known.{found, lists_of}
use Rattle.spaces.specs.Spaces.{states}
use Rattle.spaces.proofs.Growing.{shown-at, sound-below, sound-shallow}
use Rattle.spaces.proofs.Members.{below-permuted, look-permuted, shallow-permuted}
use Rattle.spaces.proofs.found.FoundSets.copies.Goals as goal
use Rattle.spaces.proofs.found.FoundSets.copies.Goals.{After-numbers_of}

module _ (g : _) (c : After-numbers_of g) where
  within : c.args.set < length c.self.inside.sets.entries
  within =
      let es = c.self.inside.sets.entries in
      let h = subst (λ (f : Found). c.args.set < length f.sets) (sym c.self.view_is) c.requires in
      omega (arith, h, length-map es (λ (x : Vec ℕ g.row.A.Denot × SetFacts g.row.A.Denot). x.0.items))

  -- the numbers are those of the set's members
  listed : look c.self.inside.states.all.table.processes c.numbers_of.result.now ≡ states (shown c.args.self.now) c.args.set
  listed =
      let es = c.self.inside.sets.entries in
      let w : c.args.set < length (lists_of es) = omega (arith, within, length-map es (λ (x : Vec ℕ g.row.A.Denot × SetFacts g.row.A.Denot). x.0.items)) in
      ap (look c.self.inside.states.all.table.processes) c.numbers_of.ensures
      ∙ sym (shown-at (found c.self.inside.spec c.self.inside.states es) c.args.set w)
      ∙ ap (λ (f : Found). states (shown f) c.args.set) c.self.view_is

  shallow : AllShallow (look c.self.inside.states.all.table.processes c.numbers_of.result.now)
  shallow =
      subst (λ (ns : List ℕ). AllShallow (look c.self.inside.states.all.table.processes ns)) (sym c.numbers_of.ensures)
      (sound-shallow c.self.inside.spec c.self.inside.sets.entries c.self.inside.states c.self.invariant c.args.set within)

pub put_from-requires : goal.put_from-requires
put_from-requires g c =
    subst (λ (ns : List ℕ). AllBelow (length c.self.inside.states.all.table.processes) ns) (sym c.numbers_of.ensures)
    (sound-below c.self.inside.spec c.self.inside.sets.entries c.self.inside.states c.self.invariant c.args.set (within g c))

pub returns-clause-below : goal.returns-clause-below
returns-clause-below g c = below-permuted c.in_ok-list.list.items c.sort_unstable.new.self.items c.sort_unstable.ensures.permutation _ c.in_ok-list.ensures.below

pub returns-clause-shallow : goal.returns-clause-shallow
returns-clause-shallow g c =
    let a = (goal.at.returns-clause-shallow g c).After-numbers_of in
    shallow-permuted c.in_ok-list.list.items c.sort_unstable.new.self.items c.sort_unstable.ensures.permutation c.put_from.new.self.all.table.processes
    (subst AllShallow (sym c.in_ok-list.ensures.same) (shallow g a))

pub returns-clause-same : goal.returns-clause-same
returns-clause-same g c =
    let a = (goal.at.returns-clause-same g c).After-numbers_of in
    let ns = c.in_ok-list.list.items in
    let ms = c.sort_unstable.new.self.items in
    let ps = c.put_from.new.self.all.table.processes in
    λ Q. subst (λ (l : List Proc). In Q (look ps ms) ↔ In Q l) (c.in_ok-list.ensures.same ∙ listed g a) (look-permuted ns ms c.sort_unstable.ensures.permutation ps Q)

pub returns-clause-begun : goal.returns-clause-begun
returns-clause-begun g c =
    let spec : c.self.inside.spec ≡ c.args.self.now.spec = ap (λ (f : Found). f.spec) c.self.view_is in (
      c.put_from.ensures.kept.all.bodies ∙ ap (λ k. k.all.bodies) c.replace.ensures.after ∙ c.in_ok-bodies.ensures.bodies ∙ ap (λ (s : Specified). s.bodies) spec,
      c.put_from.ensures.kept.deep ∙ ap (λ k. k.deep) c.replace.ensures.after ∙ c.in_ok-bodies.ensures.deep ∙ ap unfolding_depth spec,
    )
