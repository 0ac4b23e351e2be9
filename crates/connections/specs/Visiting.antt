-- The connections of a service while it runs.
use Rattle.std.specs.Prelude.{◌≡◌, ◌⊎◌, ◌||◌, ◌≤◌, ℕ, ◌+◌, Bool, List, [], ◌∷◌, length, map, sum_by, Option, None, Result, Ok, Err}
use Rattle.wire.specs.Faults.{Fault}
use Rattle.answers.specs.declared.fault.Fault.TheVariants.{Seats}
use Rattle.wire.specs.declared.answer.Tally.{Tally}
use Rattle.wire.specs.declared.engine.End.{End}
use Rattle.wire.specs.declared.engine.WireError.{WireError}
use Rattle.connections.specs.declared.gate.Over.{Over}
use Rattle.connections.specs.declared.outcome.Ending.{Ending}
use Rattle.connections.specs.declared.outcome.Outcome.{Outcome}
use Rattle.connections.specs.declared.outcome.Outcome.TheVariants as outcome
use Rattle.connections.specs.declared.services.Terms.{Terms}
use Rattle.connections.specs.declared.totals.Totals.{Totals}
use Rattle.connections.specs.declared.visits.Hall.{Hall}
use Rattle.connections.specs.declared.visits.Running.{Running}
use Rattle.connections.specs.declared.visits.Visit.{Visit}
use Rattle.connections.specs.declared.visits.Visited.{Visited}
use Rattle.connections.specs.declared.visits.Visited.TheVariants as visited
use Rattle.connections.specs.Outcomes.{IsOutcome, WasClosed, ending_of, places_of}
use Rattle.connections.specs.Endings.{has_rejected, met_limit}
use Rattle.connections.specs.Services.{Goes, Holding, IsHeld, IsLook, IsStep, IsSum, IsWithout, Standing, Step, Without, beginning, capped, nothing_held, refusal_of, steps_by, taken_of, unjudged_of}

-- A connection that was taken: its thread runs, or it is over.
pub data State (G P R W : Type 0) : Type 0 where
  present : Visit G P R W → State G P R W
  past : Outcome P → State G P R W

-- those whose threads run
abbrev pub visits_of : {G P R W : Type 0} → List (State G P R W) → List (Visit G P R W)
visits_of [] = []
visits_of (present visit ∷ states) = visit ∷ visits_of states
visits_of (past came ∷ states) = visits_of states

-- what came of those that are over
abbrev pub outcomes_of : {G P R W : Type 0} → List (State G P R W) → List (Outcome P)
outcomes_of [] = []
outcomes_of (present visit ∷ states) = outcomes_of states
outcomes_of (past came ∷ states) = came ∷ outcomes_of states

-- the numbers of those whose threads run, where the first of them all has this number
abbrev pub numbers_of : {G P R W : Type 0} → ℕ → List (State G P R W) → List ℕ
numbers_of number [] = []
numbers_of number (present visit ∷ states) = number ∷ numbers_of (number + 1) states
numbers_of number (past came ∷ states) = numbers_of (number + 1) states

-- who has a place, where these were taken
abbrev pub holding_of : {G P R W : Type 0} → List (State G P R W) → Holding
holding_of states = record { by = numbers_of 0 states; taken = length states }

-- the fault for which one got no place, if it got none
abbrev pub refusal_in : {G P R W : Type 0} → State G P R W → Option Fault
refusal_in (present visit) = None
refusal_in (past came) = refusal_of came

-- What comes of a connection at a place of a gate, whose reader and writer know these bytes: it is served, and closed; or it was called off,
-- and the place is as it was.
abbrev pub Comes : {G P : Type 0} → (G → P → P → Tally → Option (List ℕ) → Option (List ℕ) → Option (List ℕ) → Option (List ℕ) → Result End WireError → Type 0)
    → (Option (List ℕ) → Type 0) → G → P → Option (List ℕ) → Option (List ℕ) → Visited P → Type 0
Comes serves closed gate place left written (visited.Over over) =
    (rest : Option (List ℕ)) × (new : Option (List ℕ)) × serves gate place over.place over.tally left rest written new over.end × closed rest
Comes serves closed gate place left written (visited.CalledOff last) = last ≡ place

-- the thread of a connection with this reader and writer begins so, at this place of a gate
abbrev pub Begins : {G P R W : Type 0} → G → P → R → W → Visit G P R W → Type 0
Begins gate place reader writer visit =
    (visit.gate.value ≡ gate) × (visit.place.value ≡ place) × (visit.reader.value ≡ reader) × (visit.writer.value ≡ writer)

-- what it promises
module _ {G P R W : Type 0} (serves : G → P → P → Tally → Option (List ℕ) → Option (List ℕ) → Option (List ℕ) → Option (List ℕ) → Result End WireError → Type 0)
    (left : R → Option (List ℕ)) (closed : R → Type 0) (contents : W → Option (List ℕ)) where
  abbrev pub IsVisited : Visit G P R W → Visited P → Type 0
  IsVisited visit gone = Comes serves (WasClosed left closed) visit.gate.value visit.place.value (left visit.reader.value) (contents visit.writer.value) gone

-- the place that a thread gives back, and what came of its connection
abbrev pub place_after : {P : Type 0} → Visited P → P
place_after (visited.Over over) = over.place
place_after (visited.CalledOff place) = place

abbrev pub outcome_after : {P : Type 0} → Visited P → Outcome P
outcome_after (visited.Over over) = outcome.Over over
outcome_after (visited.CalledOff place) = outcome.NotStarted

-- one ending more
pub record IsAdded (old : Totals) (ending : Ending) (new : Totals) : Type 0 where
  pub rejected : new.rejected ≡ (old.rejected || has_rejected ending)
  pub limit : new.limit ≡ (old.limit || met_limit ending)
  pub unjudged : new.unjudged ≡ capped (old.unjudged + unjudged_of ending)

-- What is known of a hall: what its threads promise, the totals, how many places are free, and how many reports were answered at those that
-- were given back.
pub record Book (V : Type 0) : Type 0 where
  pub visits : List V
  pub totals : Totals
  pub free : ℕ
  pub counted : ℕ

abbrev pub promises : {P V : Type 0} → List (Running P V) → List V
promises [] = []
promises (running ∷ others) = running.thread.promise ∷ promises others

abbrev pub book_of : {P V L : Type 0} → (L → ℕ) → (L → ℕ) → Hall P V L → Book V
book_of free counted hall = record { visits = promises hall.running.items; totals = hall.totals; free = free hall.places; counted = counted hall.places }

-- A thread kept its promise, its place was given back, and how its connection ended was added.
pub record Leaves {V P : Type 0} (kept : V → Visited P → Type 0) (answered : P → ℕ) (old new : Book V) : Type 0 where
  pub visit : V
  pub gone : Visited P
  pub out : Without visit old.visits new.visits
  pub kept_by : kept visit gone
  pub added : IsAdded old.totals (ending_of (outcome_after gone)) new.totals
  pub free_is : new.free ≡ old.free + 1
  pub counted_is : new.counted ≡ old.counted + answered (place_after gone)

-- some of them did so, one after another
pub data Leave {V P : Type 0} (kept : V → Visited P → Type 0) (answered : P → ℕ) (old : Book V) : Book V → Type 0 where
  none : Leave kept answered old old
  more : (mid new : Book V) → Leave kept answered old mid → Leaves kept answered mid new → Leave kept answered old new

-- where some had left, more may have
abbrev pub GoesOn : {V P : Type 0} → (V → Visited P → Type 0) → (P → ℕ) → Book V → Book V → Type 0
GoesOn {V} kept answered old new = (first : Book V) → Leave kept answered first old → Leave kept answered first new

-- with one place more that is free
abbrev pub with_one : {V : Type 0} → Book V → Book V
with_one book = record book { free = book.free + 1 }

-- before a place was given, where one was
abbrev pub before_place : {V P X : Type 0} → Result P X → Book V → Book V
before_place (Ok place) book = with_one book
before_place (Err fault) book = book

-- Why there is no place: the gate refuses one for this fault; or it is 22, and as many threads run as may, or no place is free.
abbrev pub IsRefused : {V : Type 0} → (Fault → Type 0) → ℕ → Book V → Fault → Type 0
IsRefused refuses threads book fault = refuses fault ⊎ ((fault ≡ Seats) × ((threads ≤ length book.visits) ⊎ (book.free ≡ 0)))

-- how the service stands
abbrev pub standing : {V : Type 0} → Book V → Bool → ℕ → Option Bool → Standing
standing book any failures ended = record { there = length book.visits; any = any; failures = failures; ended = ended }

module _ {G P R W A L : Type 0} (gate : G) (gives : P → Type 0) (refuses : Fault → Type 0)
    (serves : G → P → P → Tally → Option (List ℕ) → Option (List ℕ) → Option (List ℕ) → Option (List ℕ) → Result End WireError → Type 0)
    (answered : P → ℕ) (free counted : L → ℕ)
    (takes : A → R → W → A → Type 0) (fails waits : A → A → Type 0) (left : R → Option (List ℕ)) (closed : R → Type 0) (contents : W → Option (List ℕ)) (told : W → Fault → Type 0) (terms : Terms) where
  -- a thread serves a connection with this reader and writer, at a place that the gate gave
  abbrev pub IsVisit : R → W → Visit G P R W → Type 0
  IsVisit reader writer visit = (place : P) × gives place × (answered place ≡ 0) × Begins gate place reader writer visit

  -- what was done with a connection with this reader and writer
  abbrev pub IsState : R → W → State G P R W → Type 0
  IsState reader writer (present visit) = IsVisit reader writer visit
  IsState reader writer (past came) = IsOutcome gives (IsWithout refuses) (serves gate) (WasClosed left closed) (told writer) (left reader) (contents writer) came

  -- The service so far, since it began to take connections with these places: its steps, with those that it took, of which these are there, and
  -- what came of the others; and how it stands.
  pub record IsAt (first now : A) (places : L) (book : Book (Visit G P R W)) (stand : Standing) : Type 0 where
    pub states : List (Step (State G P R W))
    pub looks : Goes (IsLook takes fails waits IsState) first states now
    pub stands : Goes (IsStep refuses terms (free places)) beginning (steps_by refusal_in states) stand
    pub there : visits_of (taken_of states) ≡ book.visits
    pub sum : IsSum (map ending_of (outcomes_of (taken_of states))) book.totals
    pub free_are : book.free + length (visits_of (taken_of states)) ≡ free places
    pub counted_are : book.counted ≡ counted places + sum_by answered (places_of (outcomes_of (taken_of states)))

  -- The same, and which connections have a place.
  abbrev pub IsSoFar : A → A → L → Book (Visit G P R W) → Bool → ℕ → Option Bool → Type 0
  IsSoFar first now places book any failures ended =
      (at : IsAt first now places book (standing book any failures ended)) × Goes IsHeld nothing_held (steps_by refusal_in at.states) (holding_of (taken_of at.states))
