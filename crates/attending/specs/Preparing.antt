-- What is made of a line before anything is written.
use Rattle.std.specs.Prelude.{◌≡◌, ◌<◌, ℕ, suc, List, length, Bool, true, false, Option, Some, None, Result, Ok, Err, is_some}
use Rattle.alphabet.specs.declared.events.Event.{Event}
use Rattle.term.specs.Proc.{bodies_of}
use Rattle.term.specs.Specs.{Specified}
use Rattle.session.specs.Entry.{Entry}
use Rattle.session.specs.Entries.{events}
use Rattle.session.specs.Monitors.{Monitoring}
use Rattle.wire.specs.Requests.{Asks}
use Rattle.wire.specs.Replies.{Answers, tallied, TakesNoName}
use Rattle.wire.specs.declared.answer.Answer.{Answer}
use Rattle.wire.specs.declared.answer.Answer.TheVariants.{Judged}
use Rattle.wire.specs.declared.answer.Tally.{Tally}
use Rattle.wire.specs.declared.requests.Request.{Request}
use Rattle.attending.specs.Courses.{Course, Reports, Statuses, Nexts}
use Rattle.attending.specs.Standing.{Standing, course_of}
use Rattle.attending.specs.Lines.{ExplainsIf, reply_text}
use Rattle.attending.specs.declared.manner.Manner.{Manner}
use Rattle.attending.specs.declared.manner.Ending.{Ending}
use Rattle.attending.specs.declared.manner.Ending.TheVariants.{By, Rejected}
use Rattle.wire.specs.declared.engine.WireError.{WireError}

-- where a check stands, by its parts
abbrev pub standing : List Entry → Option Entry → Tally → ℕ → Bool → Option (List ℕ) → Standing
standing h failed tally lines whole errors = record { course = course_of h failed; tally = tally; lines = lines; whole = whole; errors = errors }

-- the monitor, if reasons are wanted, stands after the accepted events, as long as all was written
pub record IsReady (manner : Manner) (spec : Specified) (h : List Entry) (monitor : Option Monitoring) (whole : Bool) : Type 0 where
  pub wanted : is_some monitor ≡ manner.explain
  pub stands : whole ≡ true → (m : Monitoring) → monitor ≡ Some m → (m.spec ≡ spec) × (m.trace ≡ events h)

-- where a report was judged, the last entry of the history, of which so many were let go, wasn't
abbrev pub HasLast : Answer → ℕ → List Entry → Type 0
HasLast (Judged receipt) gone h = gone < length h
HasLast answer gone h = Unit {0}

-- a line that asks for this and is answered so moves what stands after these events to this history
pub record Moves (spec : Specified) (u : List Event) (request : Request) (answer : Answer) (h : List Entry) : Type 0 where
  pub old : Course
  pub new : Course
  pub stands : u ≡ events old.history
  pub history_is : new.history ≡ h
  pub answers : Answers (Reports spec) Statuses (Nexts (bodies_of spec.bodies)) TakesNoName old request new answer

-- the line is answered, and its reply and what is to be written on the errors are made
pub record Prepares (manner : Manner) (spec : Specified) (old : Standing) (line : List ℕ) (new : Standing) (reply said : List ℕ) : Type 0 where
  pub request : Request
  pub answer : Answer
  pub asks : Asks spec.alphabet line request
  pub answers : Answers (Reports spec) Statuses (Nexts (bodies_of spec.bodies)) TakesNoName old.course request new.course answer
  pub reply_is : reply ≡ reply_text manner spec answer
  pub tally_is : new.tally ≡ tallied old.tally answer
  pub whole : new.whole ≡ true → (old.whole ≡ true) × (new.lines ≡ suc old.lines) × ExplainsIf manner.explain spec new.lines old.course.history line request answer said

-- where --first is asked for and it goes on, or ends otherwise, no report was rejected yet
abbrev pub GoesOn : Manner → Tally → Result (Option Ending) WireError → Type 0
GoesOn manner tally (Ok None) = manner.first ≡ true → tally.rejected ≡ false
GoesOn manner tally (Ok (Some (By end))) = manner.first ≡ true → tally.rejected ≡ false
GoesOn manner tally (Ok (Some Rejected)) = manner.first ≡ true
GoesOn manner tally (Err error) = Unit {0}
