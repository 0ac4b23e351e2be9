-- What comes of a set by an event, and what is remembered of that.
use Rattle.std.specs.Prelude.{◌≡◌, ◌↔◌, ℕ, ◌<◌, ◌≤◌, List, [], ◌∷◌, ◌++◌, length, nat_eq, Option, None, Some}
use Rattle.std.specs.Map.{lookup}
use Rattle.alphabet.specs.declared.events.Event.{Event}
use Rattle.tau_closures.specs.Label.TheVariants as label
use Rattle.term.specs.Meaning.{Trace}
use Rattle.term.specs.Proc.{Proc, bodies_of, root}
use Rattle.term.specs.Traces.{In}
use Rattle.tau_closures.specs.Memory.{IsSmall, key}
use Rattle.tau_closures.specs.Limits.{EventMeetsNone}
use Rattle.spaces.specs.Spaces.{Spaced, Belongs, most_remembered, states}

-- The set has just these members.
pub record HasMembers (space : Spaced) (ps : List Proc) (set : ℕ) : Type 0 where
  pub within : set < length space.sets
  pub same : (Q : Proc) → In Q (states space set) ↔ In Q ps

-- What is exact for u: none where u is no trace of the root, else a set that belongs to it.
abbrev pub IsAfter : Spaced → List Event → Option ℕ → Type 0
IsAfter space u None = Trace (bodies_of space.spec.bodies) root u → ⊥
IsAfter space u (Some set) = Trace (bodies_of space.spec.bodies) root u × Belongs space set u

-- What exactness demands of the answer to the set and the event x, for each trace to which the set belongs. The event meets no
-- limit.
pub record IsAnswer (space : Spaced) (set : ℕ) (x : Event) (answer : Option ℕ) : Type 0 where
  pub exact : (u : List Event) → Belongs space set u → IsAfter space (u ++ x ∷ []) answer
  pub within : (u : List Event) → Belongs space set u → EventMeetsNone space.spec u x

-- What is remembered of a set of the space and an event.
pub record IsRemembered (space : Spaced) (set : ℕ) (x : Event) (answer : Option ℕ) : Type 0 where
  pub here : set < length space.sets
  pub is : IsAnswer space set x answer

-- All that is remembered is so.
abbrev pub AllRemembered : Spaced → List (ℕ × Option ℕ) → Type 0
AllRemembered space es =
    (set : ℕ) (x : Event) (answer : Option ℕ) → IsSmall (label.Event x) → lookup (nat_eq (key set (label.Event x))) es ≡ Some answer → IsRemembered space set x answer

-- What always holds of a space's memory.
pub record IsMemory (space : Spaced) (answers : List (ℕ × Option ℕ)) : Type 0 where
  pub remembered : AllRemembered space answers
  pub few : length answers ≤ most_remembered
