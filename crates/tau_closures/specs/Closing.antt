-- How a list of processes grows, level by level, until hidden steps lead nowhere else.
use Rattle.std.specs.Prelude.{◌≡◌, ℕ, ◌≤◌, ◌⊎◌, List, [], ◌++◌, length}
use Rattle.alphabet.specs.declared.events.Event.{Event}
use Rattle.alphabet.specs.declared.events.Event.TheVariants.{Tick as tick, Of as ev}
use Rattle.term.specs.Traces.{In}
use Rattle.term.specs.Proc.{Proc}
use Rattle.term.specs.Steps.{Ticks}
use Rattle.term.specs.Sizes.{depth}
use Rattle.term.specs.Specs.{Specified, IsProcessOf}
use Rattle.term.specs.Limits.{Terms, Reach, Distinct, HasDeep, HasMany, NoLimit, deepest_state, most_states}
use Rattle.targets.specs.declared.labels.Label.{Label}
use Rattle.targets.specs.declared.labels.Label.TheVariants as label
use Rattle.targets.specs.Labels.{Step}
use Rattle.targets.specs.Offers.{Offers}
use Rattle.targets.specs.Cuts.{CutOf}
use Rattle.tau_closures.specs.declared.fault.AfterFault.{AfterFault}
use Rattle.tau_closures.specs.declared.fault.AfterFault.TheVariants.{Depth, States, Memory}

-- The members of the list, as a set.
abbrev pub Among : List Proc → Terms
Among ps Q = In Q ps

-- Q is a target of a step with this label from one of these processes.
abbrev pub TargetOf : (ℕ → Proc) → List Proc → Label → Terms
TargetOf B ps l Q = (P : Proc) × In P ps × Step B P l Q

-- Q is one of these, or a target of a hidden step from one of those.
abbrev pub WithHidden : (ℕ → Proc) → List Proc → List Proc → Terms
WithHidden B seen ps Q = In Q seen ⊎ TargetOf B ps label.Tau Q

-- All of these are processes of the specification.
abbrev pub AllLie : Specified → List Proc → Type 0
AllLie spec ps = (P : Proc) → In P ps → IsProcessOf spec P

-- None of these is deeper than a state may be.
abbrev pub AllShallow : List Proc → Type 0
AllShallow ps = (P : Proc) → In P ps → depth P ≤ deepest_state

-- The list grew at its end by those of these processes that it hadn't.
pub record HasPut (ps old new : List Proc) : Type 0 where
  pub more : (next : List Proc) × (new ≡ old ++ next)
  pub once : Distinct old → Distinct new
  pub only : (Q : Proc) → In Q new → In Q old ⊎ In Q ps
  pub all : (Q : Proc) → In Q ps → In Q new

-- From the list of one level the list of the next was made, within the limits. The hidden steps of `fresh` alone lead
-- further.
pub record Grows (B : ℕ → Proc) (fresh old new : List Proc) : Type 0 where
  pub more : (next : List Proc) × (new ≡ old ++ next)
  pub shallow : HasDeep (TargetOf B fresh label.Tau) → ⊥
  pub few : length new ≤ most_states
  pub cut : CutOf (WithHidden B old fresh) most_states new

-- Why there is no next level.
abbrev pub IsStuck : (ℕ → Proc) → List Proc → List Proc → AfterFault → Type 0
IsStuck B fresh old Depth = HasDeep (TargetOf B fresh label.Tau)
IsStuck B fresh old States = (HasDeep (TargetOf B fresh label.Tau) → ⊥) × HasMany (WithHidden B old fresh)
IsStuck B fresh old Memory = Unit {0}

-- A level 0 within the limits.
pub record Opens (spec : Specified) (first : List Proc) : Type 0 where
  pub once : Distinct first
  pub few : length first ≤ most_states
  pub shallow : AllShallow first
  pub lies : AllLie spec first

-- The list has all that hidden steps reach from L, and nothing else, and no level from L on meets a limit.
pub record IsClosure (B : ℕ → Proc) (L : Terms) (l : List Proc) : Type 0 where
  pub within : NoLimit B L
  pub shallow : AllShallow l
  pub only : (Q : Proc) → In Q l → (P : Proc) × L P × Reach B P [] Q
  pub all : (P Q : Proc) → L P → Reach B P [] Q → In Q l

-- The process has a step with this event, or with tick.
abbrev pub Takes : Proc → Event → Type 0
Takes P tick = Ticks P
Takes P (ev a) = Offers P a
