-- When one process refines another, and what shows that it doesn't.
-- C has the bodies of the specification's names, B those of the implementation's; both begin with their root. Their events are those of
-- one alphabet.
-- Sources stand in brackets: (Roscoe, ..) is The Theory and Practice of Concurrency. What has none is this project's own.
use Rattle.std.specs.Prelude.{◌≡◌, ℕ, ◌+◌, ◌<◌, ◌⊎◌, List, [], ◌∷◌, ◌++◌}
use Rattle.alphabet.specs.EventSets.{Set, member}
use Rattle.alphabet.specs.declared.events.Event.{Event}
use Rattle.term.specs.Proc.{Proc, bodies_of, root}
use Rattle.term.specs.Meaning.{Trace, Failure}
use Rattle.term.specs.Specs.{Specified}
use Rattle.spaces.specs.AfterFault.{AfterFault}
use Rattle.spaces.specs.Limits.{EventMeets, OpeningMeets}
use Rattle.spaces.specs.Spaces.{Spaced, Belongs}
use Rattle.refinement.specs.declared.outcome.Refinement.{Refinement}
use Rattle.refinement.specs.declared.outcome.Refinement.TheVariants.{Traces, Failures}
use Rattle.refinement.specs.declared.outcome.Broken.{Broken}
use Rattle.refinement.specs.declared.outcome.Broken.TheVariants as broken
use Rattle.refinement.specs.declared.outcome.Fault.{Fault}
use Rattle.refinement.specs.declared.outcome.Fault.TheVariants as fault

-- Each trace of the implementation is one of the specification.
-- (Roscoe, traces refinement; in scripts `C [T= B`)
abbrev pub RefinesTraces : (ℕ → Proc) → (ℕ → Proc) → Type 0
RefinesTraces C B = (u : List Event) → Trace B root u → Trace C root u

-- And what the implementation may refuse after a trace, the specification may refuse there, too.
-- (Roscoe, stable failures refinement; in scripts `C [F= B`)
abbrev pub RefinesFailures : (ℕ → Proc) → (ℕ → Proc) → Type 0
RefinesFailures C B = RefinesTraces C B × ((u : List Event) (X : Set) → Failure B root u (member X) → Failure C root u (member X))

abbrev pub Refines : Refinement → (ℕ → Proc) → (ℕ → Proc) → Type 0
Refines Traces C B = RefinesTraces C B
Refines Failures C B = RefinesFailures C B

-- What shows that it doesn't: the trace u and then an event, or u and a set that is refused there. The implementation does so, and the
-- specification doesn't. A refused set shows nothing of traces.
abbrev pub Breaks : Refinement → (ℕ → Proc) → (ℕ → Proc) → List Event → Broken → Type 0
Breaks r C B u (broken.Event x) = Trace B root (u ++ x ∷ []) × (Trace C root (u ++ x ∷ []) → ⊥)
Breaks Traces C B u (broken.Refusal X) = ⊥
Breaks Failures C B u (broken.Refusal X) = Failure B root u (member X) × (Failure C root u (member X) → ⊥)

-- Somewhere the process meets this limit.
abbrev pub Meets : Specified → AfterFault → Type 0
Meets s f = OpeningMeets s f ⊎ ((u : List Event) × (x : Event) × EventMeets s u x f)

-- As many pairs of sets of states are met, each by a trace of both processes: pairs of numbers of a space of each, pairwise different.
-- That two numbers of a space are of different sets isn't said. (all of it this project's own)
pub record AreMet (s t : Specified) (count : ℕ) : Type 0 where
  pub spec : Spaced
  pub made : Spaced
  pub of_spec : spec.spec ≡ s
  pub of_made : made.spec ≡ t
  pub left : ℕ → ℕ
  pub right : ℕ → ℕ
  pub reached : (i : ℕ) → i < count → (u : List Event) × Trace (bodies_of s.bodies) root u × Trace (bodies_of t.bodies) root u × Belongs spec (left i) u × Belongs made (right i) u
  pub different : (i j : ℕ) → i < j → j < count → left i ≡ left j → right i ≡ right j → ⊥

-- Why it isn't decided, where so many pairs are kept at most: one of the two processes meets a limit, a pair more is met, or memory is
-- wanting. Want of memory says nothing.
abbrev pub IsUndecided : ℕ → Specified → Specified → Fault → Type 0
IsUndecided most s t (fault.Specification f) = Meets s f
IsUndecided most s t (fault.Implementation f) = Meets t f
IsUndecided most s t fault.Pairs = AreMet s t (most + 1)
IsUndecided most s t fault.Memory = Unit {0}
