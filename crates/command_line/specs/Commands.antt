-- What the commands write, and the exit statuses that go with it.
use Rattle.std.specs.Prelude.{◌≡◌, ℕ, List, Option, Result, false}
use Rattle.std.specs.Io.KnownBytes.{Appends}
use Rattle.term.specs.Specs.{Specified}
use Rattle.program.specs.Entry.{Entry}
use Rattle.wire.specs.declared.answer.Tally.{Tally}
use Rattle.wire.specs.declared.engine.End.{End}
use Rattle.wire.specs.declared.engine.WireError.{WireError}
use Rattle.wire.specs.Replies.{status_text}
use Rattle.script.specs.Reading.{IsRead}
use Rattle.program.specs.Conversations.{Conversed, no_answers}
use Rattle.program.specs.Courses.{status_of}
use Rattle.program.specs.Exits.{attended_exit, exit_of, replay_exit}
use Rattle.program.specs.Standing.{Standing, unattended}
use Rattle.program.specs.Attendances.{Attendance}
use Rattle.program.specs.Manner.{Manner}
use Rattle.program.specs.Ending.{Ending}
use Rattle.program.specs.Options.{Options}
use Rattle.program.specs.Prints.{IsPrinted}
use Rattle.program.specs.Showings.{Displays}
use Rattle.answers.specs.declared.exit.Exit.{Exit}
use Rattle.answers.specs.declared.exit.Exit.TheVariants.{BadScript, FileFailed, Limit}

-- the statuses where a script's file can't be read, the script is refused, or no session of it opens
abbrev pub IsRefusal : Exit → Type 0
IsRefusal BadScript = Unit {0}
IsRefusal FileFailed = Unit {0}
IsRefusal Limit = Unit {0}
IsRefusal _ = ⊥

-- The bytes out are the definition's replies to the bytes in, by what some script denotes for the process, and the exit status is
-- that of the conversation.
pub record Judged (process : List ℕ) (left rest old new : Option (List ℕ)) (exit : Exit) : Type 0 where
  pub script : List ℕ
  pub spec : Specified
  pub read : IsRead script process spec
  pub end : Result End WireError
  pub history : List Entry
  pub tally : Tally
  pub conversed : Conversed spec
      (record { before = no_answers; after = tally; unread_before = left; unread_after = rest; written_before = old; written_after = new })
      end history
  pub exit_is : exit ≡ exit_of end tally

-- The bytes out, and those on the errors up to its end, are the definition's for the bytes in and this manner, by what some script denotes
-- for the process, and the exit status is that of the check.
pub record AttendedTo (manner : Manner) (process : List ℕ) (left rest old new errors : Option (List ℕ)) (exit : Exit) : Type 0 where
  pub script : List ℕ
  pub spec : Specified
  pub read : IsRead script process spec
  pub end : Result Ending WireError
  pub last : Standing
  pub attended : Attendance manner spec
      (record { before = unattended errors; after = last; unread_before = left; unread_after = rest; written_before = old; written_after = new })
      end
  pub exit_is : exit ≡ attended_exit end last.tally

-- What was written is the printed form of what some script denotes for the process.
pub record Printed (process : List ℕ) (old new : Option (List ℕ)) : Type 0 where
  pub script : List ℕ
  pub text : List ℕ
  pub printed : IsPrinted script process text
  pub appended : Appends old new text

-- What was written is the line of the counts of a history, as `S` is answered, and the exit status says whether it has a rejected
-- report.
pub record Counted (old new : Option (List ℕ)) (exit : Exit) : Type 0 where
  pub history : List Entry
  pub appended : Appends old new (status_text (status_of history false))
  pub exit_is : exit ≡ replay_exit history

-- What was written is what is shown of a history, judged by some specification, and the exit status says whether it has a rejected
-- report.
pub record Shown (options : Options) (old new : Option (List ℕ)) (exit : Exit) : Type 0 where
  pub spec : Specified
  pub history : List Entry
  pub text : List ℕ
  pub displays : Displays spec history options text
  pub appended : Appends old new text
  pub exit_is : exit ≡ replay_exit history
