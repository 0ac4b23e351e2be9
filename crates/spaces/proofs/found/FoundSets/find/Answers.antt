use Rattle.std.proofs.Common.{◌∷◌, ◌++◌, [], Option, IfNone, IfSome, ℕ, length, subst}
use Rattle.std.specs.declared.vec.Vec.{Vec}
use Rattle.term.specs.Meaning.{Trace}
use Rattle.term.specs.Proc.{bodies_of, root}
use Rattle.tau_closures.specs.Closing.{AllShallow}
use Rattle.tau_closures.specs.KeptBelonging.{KeptBelongs}
use Rattle.tau_closures.specs.Looks.{look, AllBelow}
use Rattle.tau_closures.specs.Unfolding.{unfolding_depth}
use Rattle.spaces.specs.Found.{shown}
use Rattle.spaces.proofs.Answering.{answer-none, answer-some}
use Rattle.spaces.proofs.Growing.{grew-on}
use Rattle.spaces.proofs.found.FoundSets.find.Goals as goal

pub returns-in-Ok-None-clause-answer : goal.returns-in-Ok-None-clause-answer
returns-in-Ok-None-clause-answer g c =
    answer-none (shown c.args.self.now) (shown c.states_after.new.self) c.in-Ok-None.ensures.grown c.args.set c.requires.1.within c.args.event c.in-Ok-None.ensures.within
    (λ u b. subst (λ (o : Option (Vec ℕ g.row.A.Denot)). IfNone o (Trace (bodies_of c.args.self.now.spec.bodies) root (u ++ c.args.event ∷ []) → ⊥)) c.in-Ok-None.field-0-is (c.in-Ok-None.ensures.none u b))

pub put-requires-clause-below : goal.put-requires-clause-below
put-requires-clause-below g c =
    subst (λ (o : Option (Vec ℕ g.row.A.Denot)). IfSome o (λ list. AllBelow (length c.states_after.new.self.table.processes) list.items)) c.in-Ok-Some.field-0-is c.in-Ok-Some.ensures.below

pub put-requires-clause-shallow : goal.put-requires-clause-shallow
put-requires-clause-shallow g c =
    subst (λ (o : Option (Vec ℕ g.row.A.Denot)). IfSome o (λ list. AllShallow (look c.states_after.new.self.table.processes list.items))) c.in-Ok-Some.field-0-is c.in-Ok-Some.ensures.shallow

pub returns-in_err-next-clause-grown : goal.returns-in_err-next-clause-grown
returns-in_err-next-clause-grown g c = grew-on (shown c.args.self.now) (shown c.states_after.new.self) (shown c.put.new.self) c.in-Ok-Some.ensures.grown c.put.ensures.grown

pub returns-clause-answer : goal.returns-clause-answer
returns-clause-answer g c =
    let s = shown c.args.self.now in
    let m = shown c.states_after.new.self in
    let t = shown c.put.new.self in
    let spec = c.args.self.now.spec in
    let qs = c.states_after.new.self.table.processes in
    answer-some s t (grew-on s m t c.in-Ok-Some.ensures.grown c.put.ensures.grown) c.args.set c.requires.1.within c.args.event c.in-Ok-Some.ensures.within
    (look qs c.in-Ok-Some.next.items) c.in_ok-next.next c.in_ok-next.ensures.set
    (λ u b.
    subst (λ (o : Option (Vec ℕ g.row.A.Denot)). IfSome o (λ list. Trace (bodies_of spec.bodies) root (u ++ c.args.event ∷ []) × KeptBelongs spec (unfolding_depth spec) (look qs list.items) (u ++ c.args.event ∷ []))) c.in-Ok-Some.field-0-is
    (c.in-Ok-Some.ensures.some u b))

pub returns-clause-grown : goal.returns-clause-grown
returns-clause-grown g c = grew-on (shown c.args.self.now) (shown c.states_after.new.self) (shown c.put.new.self) c.in-Ok-Some.ensures.grown c.put.ensures.grown
