-- What the states of a set offer, as far as refusals need it.
use Rattle.std.specs.Prelude.{◌≡◌, ◌↔◌, ℕ, ◌<◌, ◌&&◌, ◌⊎◌, not, true, false, List, length, get_or, take}
use Rattle.alphabet.specs.declared.events.Event.TheVariants.{Tick as tick}
use Rattle.alphabet.specs.EventSets.{Set, has, member}
use Rattle.tau_closures.specs.Offers.{offered}
use Rattle.tau_closures.specs.Resting.{Resting}
use Rattle.term.specs.Proc.{Proc}
use Rattle.term.specs.Steps.{Ticks}
use Rattle.term.specs.Traces.{In}
use Rattle.spaces.specs.Acceptances.{AreLeast, AreOrdered, ComesBefore, HasApart, IsPart}

-- One of the sets lies within O.
abbrev pub HasPart : List Set → Set → Type 0
HasPart sets O = (M : Set) × In M sets × IsPart M O

-- The process has no hidden step and can't terminate: it waits for an event that it offers.
abbrev pub Waits : Proc → Type 0
Waits P = Resting P × (Ticks P → ⊥)

-- The set has just the events that P offers.
pub record IsOffer (O : Set) (P : Proc) : Type 0 where
  pub events : (a : ℕ) → has O a ≡ offered P a
  pub no_tick : member O tick ≡ false

-- Each of the sets has just what a waiting process of the list offers, each waiting process offers all of one of them, and
-- none lies within another.
pub record AreOffers (sets : List Set) (ps : List Proc) : Type 0 where
  pub only : (O : Set) → In O sets → (P : Proc) × In P ps × Waits P × IsOffer O P
  pub all : (P : Proc) → In P ps → Waits P → (M : Set) × In M sets × ((a : ℕ) → has M a ≡ true → offered P a ≡ true)
  pub least : AreLeast sets

-- The set O was put among the old ones. Of those, and of O itself, one is left that lies within it. Where none of the old
-- ones lay within another, none of the new ones does.
pub record HasPutOffer (old : List Set) (O : Set) (new : List Set) : Type 0 where
  pub only : (M : Set) → In M new → In M old ⊎ (M ≡ O)
  pub kept : (M : Set) → In M old → HasPart new M
  pub added : HasPart new O
  pub least : AreLeast old → AreLeast new

-- Each of the set's events has a number below 256. So it is with each set of the program.
abbrev pub IsSmall : Set → Type 0
IsSmall A = (a : ℕ) → has A a ≡ true → a < 256

-- All of the sets are so.
abbrev pub AreSmall : List Set → Type 0
AreSmall sets = (M : Set) → In M sets → IsSmall M

-- The place of the set O among ordered ones: those at lower places come before it, and the one there doesn't.
pub record IsPlace (sets : List Set) (O : Set) (place : ℕ) : Type 0 where
  pub before : (M : Set) → In M (take place sets) → ComesBefore M O
  pub at : place < length sets → (get_or sets place O ≡ O) ⊎ ComesBefore O (get_or sets place O)

-- The set O was put among the old ones, unless it was there. What was ordered is so still.
pub record HasPutInOrder (old : List Set) (O : Set) (new : List Set) : Type 0 where
  pub members : (M : Set) → In M new ↔ (In M old ⊎ (M ≡ O))
  pub ordered : IsSmall O → AreSmall old → AreOrdered old → AreOrdered new

-- The sets stand for these offers, and for tick alone where it is in `next`: one of them has nothing of X just where one of
-- those has nothing of it. Where none of the offers lies within another, none of the sets does.
pub record AreLeastOf (next : Set) (offers sets : List Set) : Type 0 where
  pub exact : (X : Set) → HasApart sets X ↔ (((member next tick && not (member X tick)) ≡ true) ⊎ HasApart offers X)
  pub least : AreLeast offers → AreLeast sets
  pub small : AreSmall offers → AreSmall sets
