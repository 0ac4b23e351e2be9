-- Places in a list, by numbers.
use Rattle.std.specs.Prelude.{◌≡◌, ℕ, ◌<◌, ◌≤◌, List, length, get_or, nat_eq, Some}
use Rattle.std.specs.Map.{lookup}
use Rattle.refinement.specs.declared.outcome.Fault.{Fault}
use Rattle.refinement.specs.declared.outcome.Fault.TheVariants as fault

-- What stands at a place is found by its number.
abbrev pub ArePlaced : {X : Type 0} → (X → ℕ) → X → List X → List (ℕ × ℕ) → Type 0
ArePlaced key d xs es = (i : ℕ) → i < length xs → lookup (nat_eq (key (get_or xs i d))) es ≡ Some i

-- Why there is no place more: there are as many as there may be, or memory is wanting.
abbrev pub IsFull : ℕ → ℕ → Fault → Type 0
IsFull count most (fault.Specification f) = ⊥
IsFull count most (fault.Implementation f) = ⊥
IsFull count most fault.Pairs = most ≤ count
IsFull count most fault.Memory = Unit {0}
