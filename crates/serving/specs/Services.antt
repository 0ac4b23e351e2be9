-- How a session goes as a service, whose seats come and go.
use Rattle.std.specs.Prelude.{◌≡◌, ◌+◌, ℕ, Bool, List, [], length, map, Option, Some, Result}
use Rattle.term.specs.Specs.{Specified}
use Rattle.shared.specs.Entry.{Entry}
use Rattle.wire.specs.Faults.{Fault}
use Rattle.wire.specs.declared.answer.Tally.{Tally}
use Rattle.wire.specs.declared.engine.End.{End}
use Rattle.wire.specs.declared.engine.WireError.{WireError}
use Rattle.wire.specs.Replies.{noted}
use Rattle.wire.specs.Talks.{Serves}
use Rattle.shared.specs.View.{SeatView}
use Rattle.shared.specs.Seats.{receipts}
use Rattle.seats.specs.Judges.{ServiceReplies}
use Rattle.connections.specs.declared.outcome.Outcome.{Outcome}
use Rattle.connections.specs.declared.totals.Totals.{Totals}
use Rattle.connections.specs.declared.services.Terms.{Terms}
use Rattle.connections.specs.Outcomes.{IsOutcome, WasClosed, ending_of, places_of}
use Rattle.connections.specs.Services.{Goes, IsHeld, IsLook, IsStep, IsSum, IsWithout, Step, beginning, nothing_held, refusal_of, steps_by, taken_of}
use Rattle.serving.specs.Runs.{IsNewSeat, no_answers}
use Rattle.answers.specs.Faults.{IsNoSeat}

-- The lines of a connection are answered at a seat of a service of this specification: as at any seat, and by its first line the client may
-- say which seat it is, and go on from that seat's entries.
abbrev pub IsServedAt : Specified → SeatView → SeatView → Tally → Option (List ℕ) → Option (List ℕ) → Option (List ℕ) → Option (List ℕ) → Result End WireError → Type 0
IsServedAt spec first last tally left rest old new end =
    Serves (ServiceReplies spec spec.alphabet)
    (record {
      before = noted first no_answers;
      after = noted last tally;
      unread_before = left;
      unread_after = rest;
      written_before = old;
      written_after = new;
    })
    end

-- For an accept that takes such connections, fails, or waits for one, of readers and writers that know these bytes, where a connection is closed
-- and told a fault so.
module _ {L R W : Type 0} (takes : L → R → W → L → Type 0) (fails waits : L → L → Type 0) (left : R → Option (List ℕ)) (closed : R → Type 0) (contents : W → Option (List ℕ)) (tells : W → Fault → Type 0) where
  -- The service, on these terms and with so many places, of a session of this specification that began with the first history, and ended with the
  -- second: its steps, with what came of each connection, at a seat of its own, in the order in which they were taken, and of all together; which had a
  -- place when; how it stood at the end, when none was there any more; and how many reports were answered with `OK` or `NO`, to the seats that left among them.
  -- These are the entries that the history has more than at the opening.
  pub record Ran (accept : L) (terms : Terms) (room : ℕ) (spec : Specified) (opening history : List Entry) (totals : Totals) (accept_failed : Bool) (answered : ℕ) : Type 0 where
    pub steps : List (Step (Outcome SeatView))
    pub last : L
    pub failures : ℕ
    pub any : Bool
    pub looks : Goes (IsLook takes fails waits (λ reader writer. IsOutcome (IsNewSeat opening) (IsWithout IsNoSeat) (IsServedAt spec) (WasClosed left closed) (tells writer) (left reader) (contents writer))) accept steps last
    pub stands : Goes (IsStep IsNoSeat terms room) beginning (steps_by refusal_of steps) (record { there = 0; any = any; failures = failures; ended = Some accept_failed })
    pub held : Goes IsHeld nothing_held (steps_by refusal_of steps) (record { by = []; taken = length (taken_of steps) })
    pub sum : IsSum (map ending_of (taken_of steps)) totals
    pub counted : length history ≡ length opening + answered
    pub receipts_are : answered ≡ receipts (places_of (taken_of steps))
