-- Sets of processes with exposed names replaced, closed level by level.
use Rattle.std.specs.Prelude.{◌≡◌, ℕ, ◌≤◌, ◌⊎◌, ◌↔◌, List, ◌++◌, length}
use Rattle.term.specs.Traces.{In}
use Rattle.term.specs.Proc.{Proc, bodies_of}
use Rattle.term.specs.Steps.{Hid}
use Rattle.term.specs.Limits.{Terms, Distinct, HasDeep, HasMany, most_states}
use Rattle.targets.specs.declared.labels.Label.{Label}
use Rattle.targets.specs.Labels.{Step}
use Rattle.nodes.specs.Shapes.{at}
use Rattle.tau_closures.specs.declared.fault.AfterFault.{AfterFault}
use Rattle.tau_closures.specs.declared.fault.AfterFault.TheVariants.{Depth, States, Memory}
use Rattle.tau_closures.specs.Closing.{AllShallow, HasPut}
use Rattle.unfolding.specs.Unfolded.{kept_as}
use Rattle.unfolding.specs.Kept.{KeptHid, KeptReach, NoKeptLimit}
use Rattle.keeping.specs.Kept.{Keeping}

-- Q is what a step with this label makes of P, with its exposed names replaced.
abbrev pub KeptStep : (ℕ → Proc) → ℕ → Label → Proc → Terms
KeptStep B n l P Q = (R : Proc) × Step B P l R × (Q ≡ kept_as B n R)

-- Q is what a step with this label makes of one of these, with its exposed names replaced.
abbrev pub KeptTargetOf : (ℕ → Proc) → ℕ → List Proc → Label → Terms
KeptTargetOf B n ps l Q = (P : Proc) × In P ps × KeptStep B n l P Q

-- Q is one of these, or what a hidden step makes of one of those.
abbrev pub WithKept : (ℕ → Proc) → ℕ → List Proc → List Proc → Terms
WithKept B n seen ps Q = In Q seen ⊎ ((P : Proc) × In P ps × KeptHid B n P Q)

-- One of these has more targets of hidden steps than a set of states may have members.
abbrev pub AreBroad : (ℕ → Proc) → List Proc → Type 0
AreBroad B ps = (P : Proc) × In P ps × HasMany (Hid B P)

-- One of these has more targets of steps with this label than a set of states may have members.
abbrev pub AreBroadBy : (ℕ → Proc) → List Proc → Label → Type 0
AreBroadBy B ps l = (P : Proc) × In P ps × HasMany (Step B P l)

-- The process with this number has more targets of steps with this label than a set of states may have members.
abbrev pub IsBroad : Keeping → ℕ → Label → Type 0
IsBroad s n l = HasMany (Step (bodies_of s.all.bodies) (at s.all.table.processes n) l)

-- The list has just what steps with this label make of these, with exposed names replaced, none twice, within the limits.
pub record AreKeptTargets (B : ℕ → Proc) (n : ℕ) (ps : List Proc) (l : Label) (first : List Proc) : Type 0 where
  pub once : Distinct first
  pub few : length first ≤ most_states
  pub shallow : AllShallow first
  pub narrow : AreBroadBy B ps l → ⊥
  pub only : (Q : Proc) → In Q first → KeptTargetOf B n ps l Q
  pub all : (Q : Proc) → KeptTargetOf B n ps l Q → In Q first

-- The list grew at its end by those members of the set that it hadn't.
abbrev pub HasPutAll : Terms → List Proc → List Proc → Type 0
HasPutAll S old new = (found : List Proc) × ((Q : Proc) → In Q found ↔ S Q) × HasPut found old new

-- Why the targets of one step aren't put: there are too many before names are replaced.
abbrev pub IsBroadFault : Terms → AfterFault → Type 0
IsBroadFault S Depth = ⊥
IsBroadFault S States = HasMany S
IsBroadFault S Memory = Unit {0}

-- From the list of one level the list of the next was made, within the limits. The hidden steps of `fresh` alone lead further.
pub record KeptGrows (B : ℕ → Proc) (n : ℕ) (fresh old new : List Proc) : Type 0 where
  pub more : (next : List Proc) × (new ≡ old ++ next)
  pub narrow : AreBroad B fresh → ⊥
  pub shallow : AllShallow new
  pub few : length new ≤ most_states
  pub once : Distinct old → Distinct new
  pub only : (Q : Proc) → In Q new → WithKept B n old fresh Q
  pub all : (Q : Proc) → WithKept B n old fresh Q → In Q new

-- Why there is no next level.
abbrev pub IsKeptStuck : (ℕ → Proc) → ℕ → List Proc → List Proc → AfterFault → Type 0
IsKeptStuck B n fresh old Depth =
    HasDeep (WithKept B n old fresh) × (HasMany (WithKept B n old fresh) → ⊥) × (AreBroad B fresh → ⊥)
IsKeptStuck B n fresh old States = HasMany (WithKept B n old fresh) ⊎ AreBroad B fresh
IsKeptStuck B n fresh old Memory = Unit {0}

-- The list has all that hidden steps reach from L, exposed names replaced after each, and nothing else, and no level from L on
-- meets a limit.
pub record IsKeptClosure (B : ℕ → Proc) (n : ℕ) (L : Terms) (M : Type 0) (l : List Proc) : Type 0 where
  pub within : NoKeptLimit B n L M
  pub shallow : AllShallow l
  pub only : (Q : Proc) → In Q l → (P : Proc) × L P × KeptReach B n P Q
  pub all : (P Q : Proc) → L P → KeptReach B n P Q → In Q l
