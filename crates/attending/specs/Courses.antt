-- What the definition answers to one who reports alone.
use Rattle.std.specs.Prelude.{◌≡◌, ◌≤◌, ◌↔◌, ℕ, ◌||◌, List, [], ◌∷◌, ◌++◌, length, Bool, true, false, IsTrue, Result, Ok, Err}
use Rattle.alphabet.specs.declared.events.Event.{Event}
use Rattle.alphabet.specs.declared.events.Report.{Report}
use Rattle.alphabet.specs.EventSets.{Set, member}
use Rattle.term.specs.Proc.{Proc, bodies_of, root}
use Rattle.term.specs.Specs.{Specified}
use Rattle.term.specs.declared.names.Names.{Names}
use Rattle.term.specs.declared.names.Names.TheVariants.{Steps, Bodies}
use Rattle.term.specs.Meaning.{Trace}
use Rattle.term.specs.Verdict.{Verdict}
use Rattle.session.specs.AfterFault.TheVariants as limit
use Rattle.session.specs.Monitors.{Stops}
use Rattle.session.specs.Entry.{Entry}
use Rattle.session.specs.Summary.{Summary}
use Rattle.session.specs.Entries.{events, summary_of}
use Rattle.answers.specs.declared.receipt.Receipt.{Receipt}
use Rattle.answers.specs.declared.receipt.Status.{Status}
use Rattle.wire.specs.Faults.{Fault}
use Rattle.answers.specs.declared.fault.Fault.TheVariants.{Depth, States, Seats, History, Turn, Behind, Reader, Taken, Journal, Closed, Memory}

-- The history so far, and whether a report was answered with a fault that closes the session.
pub record Course : Type 0 where
  pub history : List Entry
  pub closed : Bool

-- nothing was reported yet
abbrev pub begun : Course
begun = record { history = []; closed = false }

-- The report was judged: the verdict is that of the definition after the accepted events, and an entry of the report with this
-- verdict is the last of the history. The place is its length.
pub record Adds (B : ℕ → Proc) (old : Course) (report : Report) (receipt : Receipt) (new : Course) : Type 0 where
  pub verdict : IsTrue receipt.verdict ↔ Verdict B (events old.history) report
  pub entry : Entry
  pub report_is : entry.report ≡ report
  pub verdict_is : entry.verdict ≡ receipt.verdict
  pub appended : new.history ≡ old.history ++ entry ∷ []
  pub place : receipt.place ≡ length new.history
  pub same : new.closed ≡ old.closed

-- the history of one who reports alone has as many entries as it takes, or where names are kept as their bodies, as there are numbers at least
abbrev pub IsLong : Names → List Entry → Type 0
IsLong Steps h = length h ≡ 1000000
IsLong Bodies h = 4294967294 ≤ length h

-- Why a report isn't judged: 20 and 21 where judging it after the accepted events meets that limit, 23 where the history is as long as it may
-- be; 22, 24 to 27 never. Of 30, 31 and 40 it says nothing.
abbrev pub IsWhy : Specified → List Entry → Report → Fault → Type 0
IsWhy spec h report Depth = Stops spec (events h) report limit.Depth
IsWhy spec h report States = Stops spec (events h) report limit.States
IsWhy spec h report History = IsLong spec.names h
IsWhy spec h report (Journal x) = Unit {0}
IsWhy spec h report (Closed x) = Unit {0}
IsWhy spec h report Memory = Unit {0}
IsWhy spec h report Seats = ⊥
IsWhy spec h report Turn = ⊥
IsWhy spec h report Behind = ⊥
IsWhy spec h report Reader = ⊥
IsWhy spec h report Taken = ⊥

-- the faults that close the session, or that only a closed one has: 30 and 31
abbrev pub closes : Fault → Bool
closes (Journal x) = true
closes (Closed x) = true
closes _ = false

-- the report wasn't judged, and the history stays
pub record Leaves (spec : Specified) (old : Course) (report : Report) (fault : Fault) (new : Course) : Type 0 where
  pub why : IsWhy spec old.history report fault
  pub same : new.history ≡ old.history
  pub closed : new.closed ≡ (closes fault || old.closed)

-- a report, and its answer
abbrev pub Reports : Specified → Course → Report → Result Receipt Fault → Course → Type 0
Reports spec old report (Ok receipt) new = Adds (bodies_of spec.bodies) old report receipt new
Reports spec old report (Err fault) new = Leaves spec old report fault new

-- four counts, and whether the session is closed
abbrev pub status_by : Summary → Bool → Status
status_by counts closed = record {
  summary = record { judged = counts.judged; events = counts.events; refusals = counts.refusals; rejected = counts.rejected };
  closed = closed;
}

-- those of a history
abbrev pub status_of : List Entry → Bool → Status
status_of h closed = status_by (summary_of h) closed

-- `S` is answered with the counts of the history, which stays
abbrev pub Statuses : Course → Status → Course → Type 0
Statuses old status new = (new ≡ old) × (status ≡ status_of old.history old.closed)

-- `N` is answered with exactly the events that go on from the accepted ones, tick among them; the history stays
abbrev pub Nexts : (ℕ → Proc) → Course → Set → Course → Type 0
Nexts B old set new = (new ≡ old) × ((x : Event) → IsTrue (member set x) ↔ Trace B root (events old.history ++ x ∷ []))
