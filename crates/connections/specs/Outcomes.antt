-- What came of the connections that were taken.
use Rattle.std.specs.Io.KnownBytes.{Appends}
use Rattle.std.specs.Prelude.{◌≡◌, ◌⊎◌, ℕ, ◌<◌, Bool, true, false, List, [], ◌∷◌, Option, Result}
use Rattle.wire.specs.Faults.{Fault}
use Rattle.wire.specs.declared.answer.Tally.{Tally}
use Rattle.wire.specs.declared.engine.End.{End}
use Rattle.wire.specs.declared.engine.WireError.{WireError}
use Rattle.wire.specs.Replies.{fault_text}
use Rattle.connections.specs.declared.outcome.Outcome.{Outcome}
use Rattle.connections.specs.declared.outcome.Outcome.TheVariants.{Over, Refused, NotStarted}
use Rattle.connections.specs.declared.outcome.Ending.{Ending}
use Rattle.connections.specs.declared.outcome.Ending.TheVariants as ending

-- A connection with this writer was sent this fault as its only line, and the line was handed on; or a write to it failed.
abbrev pub WasTold : {W : Type 0} → (W → Option (List ℕ)) → (W → Type 0) → (W → ℕ) → W → Fault → Type 0
WasTold {W} contents has_handed_on failures old fault =
    (new : W) × ((Appends (contents old) (contents new) (fault_text fault) × has_handed_on new) ⊎ (failures old < failures new))

-- A connection was closed while its reader knew these bytes.
abbrev pub WasClosed : {R : Type 0} → (R → Option (List ℕ)) → (R → Type 0) → Option (List ℕ) → Type 0
WasClosed {R} left is_closed rest = (last : R) × (left last ≡ rest) × is_closed last

-- For a gate that gives these places, refuses one for these faults, and serves a connection so; and for a connection that is closed so, and told
-- a fault so.
module _ {P : Type 0} (gives : P → Type 0) (refuses : Fault → Type 0)
    (serves : P → P → Tally → Option (List ℕ) → Option (List ℕ) → Option (List ℕ) → Option (List ℕ) → Result End WireError → Type 0)
    (closed : Option (List ℕ) → Type 0) (told : Fault → Type 0) where
  -- What came of a connection whose reader and writer knew these bytes as it was taken: it was served to its end at a place that the
  -- gate gave, and closed then; or the gate gave no place for this fault, which it was told; or it gave one, and no thread could be started.
  abbrev pub IsOutcome : Option (List ℕ) → Option (List ℕ) → Outcome P → Type 0
  IsOutcome left written (Over over) =
      (place : P) × (rest : Option (List ℕ)) × (new : Option (List ℕ)) × gives place × serves place over.place over.tally left rest written new over.end × closed rest
  IsOutcome left written (Refused fault) = refuses fault × told fault
  IsOutcome left written NotStarted = (place : P) × gives place

-- For what goes on by a connection with this reader and this writer.
module _ {A R W O : Type 0} (takes : A → R → W → A → Type 0) (came_of : R → W → O → Type 0) where
  -- One connection for each of these was taken, in this order, and this came of it.
  abbrev pub InTurn : A → List O → A → Type 0
  InTurn old [] new = new ≡ old
  InTurn old (one ∷ others) new = (reader : R) × (writer : W) × (mid : A) × takes old reader writer mid × came_of reader writer one × InTurn mid others new

-- How the accepting ended: by an accept that failed before all were taken, or once all were.
abbrev pub IsLast : {A : Type 0} → (A → A → Type 0) → A → ℕ → ℕ → Bool → Type 0
IsLast {A} fails old taken count true = (taken < count) × (new : A) × fails old new
IsLast fails old taken count false = taken ≡ count

-- how it ended
abbrev pub ending_of : {P : Type 0} → Outcome P → Ending
ending_of (Over over) = ending.Served over.end over.tally
ending_of (Refused fault) = ending.Refused fault
ending_of NotStarted = ending.NotStarted

-- the places at which connections were served
abbrev pub places_of : {P : Type 0} → List (Outcome P) → List P
places_of [] = []
places_of (Over over ∷ outcomes) = over.place ∷ places_of outcomes
places_of (Refused fault ∷ outcomes) = places_of outcomes
places_of (NotStarted ∷ outcomes) = places_of outcomes
