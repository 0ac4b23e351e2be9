-- What is remembered of the steps of processes by number.
use Rattle.std.specs.Prelude.{◌≡◌, ◌⊎◌, ℕ, ◌+◌, ◌*◌, ◌<◌, ◌≤◌, List, length, get_or, nat_eq, Option, None, Some}
use Rattle.std.specs.Map.{lookup}
use Rattle.alphabet.specs.declared.events.Event.TheVariants.{Tick as tick, Of as ev}
use Rattle.term.specs.Proc.{bodies_of}
use Rattle.targets.specs.declared.labels.Label.{Label}
use Rattle.targets.specs.declared.labels.Label.TheVariants as label
use Rattle.nodes.specs.Tables.{Tabled}
use Rattle.nodes.specs.Looks.{look, AllBelow}
use Rattle.transitions.specs.Numbered.{Numbered, numbered, AreTargets}
use Rattle.transitions.specs.Unfolding.{AreUnfolded}

-- Lists by key, and lists by number.
abbrev pub Kept : Type 0
Kept = List (ℕ × List ℕ) × List (Option (List ℕ))

-- A number for each label.
abbrev pub label_code : Label → ℕ
label_code label.Tau = 257
label_code (label.Event tick) = 256
label_code (label.Event (ev a)) = a

-- The label's event is one of the 256 that there can be.
abbrev pub IsSmall : Label → Type 0
IsSmall label.Tau = Unit {0}
IsSmall (label.Event tick) = Unit {0}
IsSmall (label.Event (ev a)) = a < 256

-- A number for a process's number and a label.
abbrev pub key : ℕ → Label → ℕ
key n l = n * 512 + label_code l

-- The list that is remembered of a process's number and a label.
abbrev pub recalled : Kept → ℕ → Label → Option (List ℕ)
recalled m n label.Tau = get_or m.1 n None
recalled m n (label.Event e) = lookup (nat_eq (key n (label.Event e))) m.0

-- What was remembered is so, but that of this number and label this may be remembered.
abbrev pub MayRecall : Kept → Kept → ℕ → Label → List ℕ → Type 0
MayRecall old new n l ns = (m : ℕ) (k : Label) → IsSmall k → (recalled new m k ≡ recalled old m k) ⊎ ((m ≡ n) × (k ≡ l) × (recalled new m k ≡ Some ns))

-- What is remembered of a process's number and a label.
pub record IsRemembered (s : Numbered) (n : ℕ) (l : Label) (ns : List ℕ) : Type 0 where
  pub within : n < length s.table.processes
  pub targets : AreTargets s n l ns

-- All that is remembered is so.
abbrev pub AllRemembered : Numbered → Kept → Type 0
AllRemembered s m = (n : ℕ) (l : Label) (ns : List ℕ) → IsSmall l → recalled m n l ≡ Some ns → IsRemembered s n l ns

-- What always holds: the bodies' numbers are in the table, what is remembered is so, and so are the depths.
pub record IsSound (t : Tabled) (ns : List ℕ) (m : Kept) (ds : List ℕ) : Type 0 where
  pub here : AllBelow (length t.processes) ns
  pub remembered : AllRemembered (numbered t ns) m
  pub few : length ds ≤ length t.processes
  pub depths : AreUnfolded (bodies_of (look t.processes ns)) t.processes ds
