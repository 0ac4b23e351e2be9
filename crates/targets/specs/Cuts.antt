-- Sets of processes as lists, each member once, as far as a bound.
use Rattle.std.specs.Prelude.{ℕ, ◌<◌, ◌⊎◌, List, length}
use Rattle.term.specs.Traces.{In}
use Rattle.term.specs.Proc.{Proc}
use Rattle.term.specs.Limits.{Terms, Distinct}

-- Members of the set, none twice: all of them, or more than this many.
pub record CutOf (S : Terms) (most : ℕ) (found : List Proc) : Type 0 where
  pub once : Distinct found
  pub only : (Q : Proc) → In Q found → S Q
  pub all : (most < length found) ⊎ ((Q : Proc) → S Q → In Q found)
