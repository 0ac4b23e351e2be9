-- Processes of a table in another one.
use Rattle.std.specs.Prelude.{◌≡◌, ℕ, List, Option, Some, slice_get}
use Rattle.term.specs.Proc.{Proc}
use Rattle.nodes.specs.Shapes.{at}
use Rattle.nodes.specs.Tables.{Tabled, IsNumber}

-- Each of the processes ps that has a place here has that number in the table.
abbrev pub ArePlaces : Tabled → List Proc → List (Option ℕ) → Type 0
ArePlaces t ps places = (k n : ℕ) → slice_get places k ≡ Some (Some n) → IsNumber t n (at ps k)
