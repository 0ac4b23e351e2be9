-- What is answered to a seat, and how that moves what it knows and has done.
use Rattle.std.specs.Prelude.{◌≡◌, ◌↔◌, ◌⊎◌, ℕ, List, [], ◌∷◌, ◌++◌, length, IsTrue, Option, Some, None, Result, Ok, Err}
use Rattle.alphabet.specs.Channels.{Channel}
use Rattle.alphabet.specs.declared.events.Event.{Event}
use Rattle.alphabet.specs.declared.events.Report.{Report}
use Rattle.alphabet.specs.EventSets.{Set, member}
use Rattle.term.specs.Proc.{Proc, bodies_of, root}
use Rattle.term.specs.Specs.{Specified}
use Rattle.term.specs.Meaning.{Trace}
use Rattle.shared.specs.Entries.{events, summary_of}
use Rattle.shared.specs.Legal.{Legal}
use Rattle.shared.specs.Beginnings.{StartsWith}
use Rattle.shared.specs.SessionFaults.{Fault as SessionFault}
use Rattle.shared.specs.View.{SeatView}
use Rattle.shared.specs.Seats.{Answered, Refused, Named}
use Rattle.answers.specs.declared.receipt.Receipt.{Receipt}
use Rattle.answers.specs.declared.receipt.Status.{Status}
use Rattle.wire.specs.Faults.{Fault}
use Rattle.wire.specs.Replies.{LineReplies, Noted, TakesNoName}
use Rattle.answers.specs.declared.fault.Fault.TheVariants.{Taken, Closed}
use Rattle.answers.specs.Faults.{plain_of}

-- A receipt is of the report's own entry, which ends what the seat has then seen: a legal history that begins with what it had seen.
-- A fault leaves the seat's own reports as they were, and says why.
abbrev pub Reports : Specified → SeatView → Report → Result Receipt Fault → SeatView → Type 0
Reports spec old report (Ok receipt) new = Answered (bodies_of spec.bodies) old new report receipt.verdict receipt.place
Reports spec old report (Err fault) new = (f : SessionFault) × (fault ≡ plain_of f) × Refused spec old new report f

-- The seat has seen a legal history that begins with what it had seen, and has reported nothing.
pub record HasLooked (B : ℕ → Proc) (old new : SeatView) : Type 0 where
  pub legal : Legal B new.seen
  pub begins : StartsWith new.seen old.seen
  pub seat : new.seat ≡ old.seat
  pub mine : new.mine ≡ old.mine
  pub begun : new.begun ≡ old.begun
  pub closed : new.closed ≡ old.closed

-- the counts are those of what is then seen
pub record Statuses (B : ℕ → Proc) (old : SeatView) (status : Status) (new : SeatView) : Type 0 where
  pub looked : HasLooked B old new
  pub judged : status.summary.judged ≡ length new.seen
  pub events_are : status.summary.events ≡ (summary_of new.seen).events
  pub refusals : status.summary.refusals ≡ (summary_of new.seen).refusals
  pub rejected : status.summary.rejected ≡ (summary_of new.seen).rejected
  pub closed : status.closed ≡ old.closed

-- the set has exactly the events that go on from what is then seen, tick among them
pub record Nexts (B : ℕ → Proc) (old : SeatView) (set : Set) (new : SeatView) : Type 0 where
  pub looked : HasLooked B old new
  pub are : (x : Event) → IsTrue (member set x) ↔ Trace B root (events new.seen ++ x ∷ [])

-- A client that says it is the seat of this name is told how many reports of the name stand there, which are then the seat's own. Where the
-- name has a connection, or the session is closed, the seat stays; so it does where it can't take the name, and is told that this is no
-- command.
abbrev pub Identifies : (ℕ → Proc) → SeatView → ℕ → Option (Result ℕ Fault) → SeatView → Type 0
Identifies B old name None new = new ≡ old
Identifies B old name (Some (Ok count)) new = Named B old new name count
Identifies B old name (Some (Err fault)) new = (new ≡ old) × ((fault ≡ Taken) ⊎ (fault ≡ Closed tt))

-- what a line is answered with at a seat that takes no name, in an alphabet of these channels
abbrev pub SeatReplies : Specified → List Channel → Noted SeatView → List ℕ → Noted SeatView → List ℕ → Type 0
SeatReplies spec channels = LineReplies (Reports spec) (Statuses (bodies_of spec.bodies)) (Nexts (bodies_of spec.bodies)) TakesNoName channels

-- and what at a seat of a service
abbrev pub ServiceReplies : Specified → List Channel → Noted SeatView → List ℕ → Noted SeatView → List ℕ → Type 0
ServiceReplies spec channels =
    LineReplies (Reports spec) (Statuses (bodies_of spec.bodies)) (Nexts (bodies_of spec.bodies)) (Identifies (bodies_of spec.bodies)) channels
