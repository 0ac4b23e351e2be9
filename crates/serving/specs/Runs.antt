-- How a session goes whose connections are served at seats of it.
use Rattle.std.specs.Prelude.{◌≡◌, ◌+◌, ℕ, Bool, false, List, [], length, map, Option, Result, IfSome}
use Rattle.term.specs.Specs.{Specified}
use Rattle.shared.specs.Entry.{Entry}
use Rattle.shared.specs.Beginnings.{StartsWith}
use Rattle.wire.specs.Faults.{Fault}
use Rattle.wire.specs.declared.answer.Tally.{Tally}
use Rattle.wire.specs.declared.engine.End.{End}
use Rattle.wire.specs.declared.engine.WireError.{WireError}
use Rattle.wire.specs.Replies.{noted}
use Rattle.wire.specs.Talks.{Serves}
use Rattle.shared.specs.View.{SeatView}
use Rattle.shared.specs.Seats.{AllTold, receipts}
use Rattle.answers.specs.Faults.{IsNoSeat}
use Rattle.seats.specs.Judges.{SeatReplies}
use Rattle.connections.specs.declared.outcome.Ending.{Ending}
use Rattle.connections.specs.declared.outcome.Outcome.{Outcome}
use Rattle.connections.specs.Outcomes.{InTurn, IsLast, IsOutcome, WasClosed, ending_of, places_of}

-- there were no answers
abbrev pub no_answers : Tally
no_answers = record { begun = false; rejected = false; unjudged = 0; limit = false }

-- a new seat of a session that began with this history: it has seen that, and reported nothing
abbrev pub IsNewSeat : List Entry → SeatView → Type 0
IsNewSeat opening seat = (seat.mine ≡ []) × (seat.begun ≡ 0) × (seat.closed ≡ false) × StartsWith seat.seen opening

-- The lines of a connection are answered at a seat of a session of this specification: each `OK n` or `NO n` for a report is the verdict
-- and the place of that line's own entry, in a legal history that begins with all that the seat had seen.
abbrev pub IsAnsweredAt : Specified → SeatView → SeatView → Tally → Option (List ℕ) → Option (List ℕ) → Option (List ℕ) → Option (List ℕ) → Result End WireError → Type 0
IsAnsweredAt spec first last tally left rest old new end =
    Serves (SeatReplies spec spec.alphabet)
    (record {
      before = noted first no_answers;
      after = noted last tally;
      unread_before = left;
      unread_after = rest;
      written_before = old;
      written_after = new;
    })
    end

-- For an accept that takes such connections, or fails, of readers and writers that know these bytes, where a connection is closed and told a
-- fault so.
module _ {L R W : Type 0} (takes : L → R → W → L → Type 0) (fails : L → L → Type 0) (left : R → Option (List ℕ)) (closed : R → Type 0) (contents : W → Option (List ℕ)) (tells : W → Fault → Type 0) where
  -- The connections of a session of this specification that began with this history: what came of each, in the order in which they were
  -- taken, at a seat of its own, and how the accepting ended.
  abbrev pub CameTo : L → ℕ → Specified → List Entry → List (Outcome SeatView) → Bool → Type 0
  CameTo accept count spec opening outcomes accept_failed =
      (last : L)
      × InTurn takes (λ reader writer. IsOutcome (IsNewSeat opening) IsNoSeat (IsAnsweredAt spec) (WasClosed left closed) (tells writer) (left reader) (contents writer)) accept outcomes last
      × IsLast fails last (length outcomes) count accept_failed

  -- The same, with the history at the end, how each connection ended, and how many reports were answered with `OK` or `NO`. Where that is
  -- known, these are the entries that the history has more than at the opening; it begins with all that each seat has seen, and a seat's
  -- entries in it are those that it was answered for.
  pub record Went (accept : L) (count : ℕ) (spec : Specified) (opening history : List Entry) (endings : List Ending) (accept_failed : Bool) (answered : Option ℕ) : Type 0 where
    pub outcomes : List (Outcome SeatView)
    pub came : CameTo accept count spec opening outcomes accept_failed
    pub endings_are : endings ≡ map ending_of outcomes
    pub counted : IfSome answered (λ n. (length history ≡ length opening + n) × (n ≡ receipts (places_of outcomes)))
    pub told : IfSome answered (λ n. AllTold history (places_of outcomes))
