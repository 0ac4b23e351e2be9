-- Freedom from deadlock, and determinism, of a process whose names have the bodies B.
-- Sources stand in brackets: (Roscoe, ..) is The Theory and Practice of Concurrency. What has none is this project's own.
use Rattle.std.specs.Prelude.{◌≡◌, ℕ, ◌+◌, ◌<◌, true, List, [], ◌∷◌, ◌++◌}
use Rattle.alphabet.specs.Events.{is_event}
use Rattle.alphabet.specs.declared.events.Event.{Event}
use Rattle.term.specs.Traces.{Refusal, TickFree}
use Rattle.term.specs.Proc.{Proc, bodies_of, root}
use Rattle.term.specs.Specs.{Specified}
use Rattle.spaces.specs.Spaces.{Spaced, Belongs}
use Rattle.refinement.specs.declared.outcome.Fault.{Fault}
use Rattle.refinement.specs.declared.outcome.Fault.TheVariants as fault
use Rattle.term.specs.Meaning.{Trace, Failure}
use Rattle.refinement.specs.declared.property.Property.{Property}
use Rattle.refinement.specs.declared.property.Property.TheVariants.{DeadlockFree, Deterministic}
use Rattle.refinement.specs.declared.property.Lack.{Lack}
use Rattle.refinement.specs.declared.property.Lack.TheVariants.{Deadlock, Choice}
use Rattle.refinement.specs.Refinement.{Meets}

-- All events, and tick.
abbrev pub everything : Refusal
everything x = true

-- After the trace u, which isn't over by termination, the process may refuse everything.
-- (Roscoe, deadlock in the stable failures model; in scripts `P :[deadlock free [F]]`)
abbrev pub IsDeadlock : (ℕ → Proc) → List Event → Type 0
IsDeadlock B u = TickFree u × Failure B root u everything

abbrev pub IsDeadlockFree : (ℕ → Proc) → Type 0
IsDeadlockFree B = (u : List Event) → IsDeadlock B u → ⊥

-- After the trace u the process may take the event x, and may refuse it.
-- (Roscoe, determinism; in scripts `P :[deterministic [F]]`)
abbrev pub IsChoice : (ℕ → Proc) → List Event → Event → Type 0
IsChoice B u x = Trace B root (u ++ x ∷ []) × Failure B root u (is_event x)

abbrev pub IsDeterministic : (ℕ → Proc) → Type 0
IsDeterministic B = (u : List Event) (x : Event) → IsChoice B u x → ⊥

abbrev pub Has : Property → (ℕ → Proc) → Type 0
Has DeadlockFree B = IsDeadlockFree B
Has Deterministic B = IsDeterministic B

-- What shows that the process hasn't the property: the trace u, and what may come after it.
abbrev pub Shows : Property → (ℕ → Proc) → List Event → Lack → Type 0
Shows DeadlockFree B u Deadlock = IsDeadlock B u
Shows DeadlockFree B u (Choice x) = ⊥
Shows Deterministic B u Deadlock = ⊥
Shows Deterministic B u (Choice x) = IsChoice B u x

-- As many sets of states are met, each by a trace: numbers of a space, pairwise different. That two numbers of a space are of different
-- sets isn't said. (all of it this project's own)
pub record AreSetsMet (s : Specified) (count : ℕ) : Type 0 where
  pub space : Spaced
  pub of_spec : space.spec ≡ s
  pub set : ℕ → ℕ
  pub reached : (i : ℕ) → i < count → (u : List Event) × Trace (bodies_of s.bodies) root u × Belongs space (set i) u
  pub different : (i j : ℕ) → i < j → j < count → set i ≡ set j → ⊥

-- Why it isn't decided, where so many sets are kept at most: the process meets a limit, a set more is met, or memory is wanting. Want of
-- memory says nothing.
abbrev pub IsUnsettled : ℕ → Specified → Fault → Type 0
IsUnsettled most s (fault.Specification f) = ⊥
IsUnsettled most s (fault.Implementation f) = Meets s f
IsUnsettled most s fault.Pairs = AreSetsMet s (most + 1)
IsUnsettled most s fault.Memory = Unit {0}
