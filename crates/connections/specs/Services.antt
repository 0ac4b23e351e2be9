-- What came of the connections of a service, which gives its places again.
use Rattle.std.specs.Prelude.{◌≡◌, ◌⊎◌, ◌&&◌, ◌==◌, ◌≤◌, ℕ, ◌+◌, ◌-◌, ◌^◌, ◌<◌, min, Bool, true, false, List, [], ◌∷◌, ◌++◌, length, map, sum_by, Option, None, Some, Result, MatchOption}
use Rattle.std.specs.List.{list_any}
use Rattle.wire.specs.Faults.{Fault}
use Rattle.answers.specs.declared.fault.Fault.TheVariants.{Seats}
use Rattle.wire.specs.declared.answer.Tally.{Tally}
use Rattle.wire.specs.declared.engine.End.{End}
use Rattle.wire.specs.declared.engine.WireError.{WireError}
use Rattle.wire.specs.Unjudged.{unjudged_lines}
use Rattle.connections.specs.declared.outcome.Ending.{Ending}
use Rattle.connections.specs.declared.outcome.Ending.TheVariants.{Served, Refused, NotStarted}
use Rattle.connections.specs.declared.outcome.Outcome.{Outcome}
use Rattle.connections.specs.declared.outcome.Outcome.TheVariants as outcome
use Rattle.connections.specs.declared.services.Closed.{Closed}
use Rattle.connections.specs.declared.services.Terms.{Terms}
use Rattle.connections.specs.declared.totals.Totals.{Totals}
use Rattle.connections.specs.Outcomes.{IsOutcome, WasClosed, ending_of, places_of}
use Rattle.connections.specs.Endings.{has_rejected, met_limit}

-- No place is given for this fault: the gate refuses one for it, or all places are taken.
abbrev pub IsWithout : (Fault → Type 0) → Fault → Type 0
IsWithout refuses fault = refuses fault ⊎ (fault ≡ Seats)

-- so far a count goes
abbrev pub capped : ℕ → ℕ
capped n = min n (2 ^ 64 - 1)

-- how many lines of the connection weren't judged, since they were no command, named no event, or were too long
abbrev pub unjudged_of : Ending → ℕ
unjudged_of (Served end tally) = unjudged_lines end tally
unjudged_of (Refused fault) = 0
unjudged_of NotStarted = 0

-- This came of these connections together.
pub record IsSum (endings : List Ending) (totals : Totals) : Type 0 where
  pub rejected : totals.rejected ≡ list_any has_rejected endings
  pub limit : totals.limit ≡ list_any met_limit endings
  pub unjudged : totals.unjudged ≡ capped (sum_by unjudged_of endings)

-- A step of the thread that takes connections: it took one, of which this came; the connection with this number, which had a place, is over,
-- and its place is free again; none came within a moment; or an accept failed. The connections have numbers from 0, in the order in which they
-- were taken.
pub data Step (O : Type 0) : Type 0 where
  took : O → Step O
  freed : ℕ → Step O
  nobody : Step O
  failed : Step O

-- what came of the connections that were taken
abbrev pub taken_of : {O : Type 0} → List (Step O) → List O
taken_of [] = []
taken_of (took one ∷ steps) = one ∷ taken_of steps
taken_of (freed number ∷ steps) = taken_of steps
taken_of (nobody ∷ steps) = taken_of steps
taken_of (failed ∷ steps) = taken_of steps

-- By these steps, one after another, it comes from one state to another.
abbrev pub Goes : {S T : Type 0} → (S → T → S → Type 0) → S → List T → S → Type 0
Goes is old [] new = new ≡ old
Goes {S} is old (step ∷ steps) new = (mid : S) × is old step mid × Goes is mid steps new

-- What becomes of where connections come from, by a step: a connection with a reader and a writer is taken, of which this came; none comes; an
-- accept fails, which leaves it as it was; and nothing as a connection is over.
module _ {A R W O : Type 0} (takes : A → R → W → A → Type 0) (fails waits : A → A → Type 0) (came_of : R → W → O → Type 0) where
  abbrev pub IsLook : A → Step O → A → Type 0
  IsLook old (took one) new = (reader : R) × (writer : W) × takes old reader writer new × came_of reader writer one
  IsLook old (freed number) new = new ≡ old
  IsLook old nobody new = waits old new
  IsLook old failed new = fails old new × (new ≡ old)

-- The fault for which a connection got no place, if it got none.
abbrev pub refusal_of : {P : Type 0} → Outcome P → Option Fault
refusal_of (outcome.Over over) = None
refusal_of (outcome.Refused fault) = Some fault
refusal_of outcome.NotStarted = None

-- How a service stands: how many connections have a place; whether there was any; how many accepts have failed, one after another; and whether
-- it has ended, by an accept that failed or for want of connections.
pub record Standing : Type 0 where
  pub there : ℕ
  pub any : Bool
  pub failures : ℕ
  pub ended : Option Bool

-- It began.
abbrev pub beginning : Standing
beginning = record { there = 0; any = false; failures = 0; ended = None }

-- Whether a service ends once an accept has failed after so many in a row: exactly where these are as many as it tries again.
abbrev pub EndsByFailure : Terms → ℕ → Option Bool → Type 0
EndsByFailure terms failures ended = MatchOption ended (failures < terms.retries) (λ accept_failed. (accept_failed ≡ true) × (terms.retries ≤ failures))

-- Whether it ends once no connection came: exactly where that is asked for, none is there, and there was one.
abbrev pub EndsByIdleness : Terms → Bool → Option Bool → Type 0
EndsByIdleness terms idle ended = MatchOption ended ((terms.until_idle && idle) ≡ false) (λ accept_failed. (accept_failed ≡ false) × ((terms.until_idle && idle) ≡ true))

-- How a service with so many places stands after a step, by the faults of those that got no place. A connection gets no place where the gate
-- refuses one, or by 22 while as many are there as there are places, or as many as may be served at one time. No more than these are ever there.
-- After the end no further one is looked for.
module _ (refuses : Fault → Type 0) (terms : Terms) (room : ℕ) where
  abbrev pub IsStep : Standing → Step (Option Fault) → Standing → Type 0
  IsStep old (took None) new = (old.ended ≡ None) × (old.there < terms.threads)
      × (new ≡ record { there = old.there + 1; any = true; failures = 0; ended = None })
  IsStep old (took (Some fault)) new = (old.ended ≡ None) × (refuses fault ⊎ ((fault ≡ Seats) × (min room terms.threads ≤ old.there)))
      × (new ≡ record { there = old.there; any = true; failures = 0; ended = None })
  IsStep old (freed number) new = (new.there + 1 ≡ old.there)
      × (new ≡ record { there = new.there; any = old.any; failures = old.failures; ended = old.ended })
  IsStep old nobody new = (old.ended ≡ None) × EndsByIdleness terms (old.any && (old.there == 0)) new.ended
      × (new ≡ record { there = old.there; any = old.any; failures = 0; ended = new.ended })
  IsStep old failed new = (old.ended ≡ None) × EndsByFailure terms old.failures new.ended
      × (new ≡ record { there = old.there; any = old.any; failures = old.failures + 1; ended = new.ended })

-- the second list is the first one with this taken out of it
abbrev pub Without : {V : Type 0} → V → List V → List V → Type 0
Without v [] ys = ⊥
Without {V} v (x ∷ xs) ys = ((x ≡ v) × (ys ≡ xs)) ⊎ ((zs : List V) × (ys ≡ x ∷ zs) × Without v xs zs)

-- The numbers of the connections that have a place, and how many were taken.
pub record Holding : Type 0 where
  pub by : List ℕ
  pub taken : ℕ

-- None was taken.
abbrev pub nothing_held : Holding
nothing_held = record { by = []; taken = 0 }

-- Which connections have a place after a step. One that got a place has it until the step in which that connection is over, and no longer: what
-- is free again then is the place of one that had it.
abbrev pub IsHeld : Holding → Step (Option Fault) → Holding → Type 0
IsHeld old (took None) new = new ≡ record { by = old.by ++ old.taken ∷ []; taken = old.taken + 1 }
IsHeld old (took (Some fault)) new = new ≡ record { by = old.by; taken = old.taken + 1 }
IsHeld old (freed number) new = Without number old.by new.by × (new.taken ≡ old.taken)
IsHeld old nobody new = new ≡ old
IsHeld old failed new = new ≡ old

-- the steps, with another thing in the place of what came of each connection
abbrev pub steps_by : {O Q : Type 0} → (O → Q) → List (Step O) → List (Step Q)
steps_by f [] = []
steps_by f (took one ∷ steps) = took (f one) ∷ steps_by f steps
steps_by f (freed number ∷ steps) = freed number ∷ steps_by f steps
steps_by f (nobody ∷ steps) = nobody ∷ steps_by f steps
steps_by f (failed ∷ steps) = failed ∷ steps_by f steps

-- For a gate, an accept and connections that say so.
module _ {A R W P L : Type 0} (gives : P → Type 0) (refuses : Fault → Type 0)
    (serves : P → P → Tally → Option (List ℕ) → Option (List ℕ) → Option (List ℕ) → Option (List ℕ) → Result End WireError → Type 0)
    (answered : P → ℕ) (free counted : L → ℕ)
    (takes : A → R → W → A → Type 0) (fails waits : A → A → Type 0) (left : R → Option (List ℕ)) (is_closed : R → Type 0) (contents : W → Option (List ℕ)) (told : W → Fault → Type 0) where
  -- What came of a service on these terms that began to take connections with these places: its steps, with what came of each connection, in
  -- the order in which they were taken, and of all together; which had a place when; and how it stood at the end, when none was there any more.
  -- Its places are free again, and count what was answered at each.
  pub record Came (accept : A) (places : L) (terms : Terms) (closed : Closed L) : Type 0 where
    pub steps : List (Step (Outcome P))
    pub last : A
    pub failures : ℕ
    pub any : Bool
    pub looks : Goes (IsLook takes fails waits (λ reader writer. IsOutcome gives (IsWithout refuses) serves (WasClosed left is_closed) (told writer) (left reader) (contents writer))) accept steps last
    pub stands : Goes (IsStep refuses terms (free places)) beginning (steps_by refusal_of steps) (record { there = 0; any = any; failures = failures; ended = Some closed.accept_failed })
    pub held : Goes IsHeld nothing_held (steps_by refusal_of steps) (record { by = []; taken = length (taken_of steps) })
    pub sum : IsSum (map ending_of (taken_of steps)) closed.totals
    pub free_are : free closed.places ≡ free places
    pub counted_are : counted closed.places ≡ counted places + sum_by answered (places_of (taken_of steps))
