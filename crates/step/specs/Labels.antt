-- The targets of a term's steps.
use Rattle.std.specs.Prelude.{◌≡◌, ◌<◌, ℕ, Bool, false, ◌||◌, ◌↔◌, List, [], ◌∷◌, ◌++◌, nat_lt}
use Rattle.term.specs.Traces.{In}
use Rattle.term.specs.Proc.{Proc}
use Rattle.term.specs.Sizes.{depth}
use Rattle.term.specs.Limits.{deepest_state}
use Rattle.targets.specs.declared.labels.Label.{Label}
use Rattle.targets.specs.Labels.{Step}

-- These are just the targets of the steps, in any order, one perhaps twice.
abbrev pub AreAllTargets : (ℕ → Proc) → Proc → Label → List Proc → Type 0
AreAllTargets B P l found = (Q : Proc) → In Q found ↔ Step B P l Q

-- The new list is the old one and after it just the targets of the steps, in any order, one perhaps twice.
abbrev pub AppendsTargets : (ℕ → Proc) → Proc → Label → List Proc → List Proc → Type 0
AppendsTargets B P l old new = (found : List Proc) × (new ≡ old ++ found) × AreAllTargets B P l found

-- Some target of the steps is deeper than a state may be.
abbrev pub HasDeepTarget : (ℕ → Proc) → Proc → Label → Type 0
HasDeepTarget B P l = (Q : Proc) × Step B P l Q × (deepest_state < depth Q)

-- One of the processes is deeper than a state may be.
abbrev pub some_deep : List Proc → Bool
some_deep [] = false
some_deep (P ∷ ps) = nat_lt deepest_state (depth P) || some_deep ps
