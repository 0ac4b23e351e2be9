-- The exit statuses.
use Rattle.std.specs.Prelude.{ℕ, Bool, true, false, ◌||◌, cond, nat_lt, Result, Ok, Err, List, zero, suc}
use Rattle.shared.specs.Entry.{Entry}
use Rattle.shared.specs.Entries.{summary_of}
use Rattle.attending.specs.declared.manner.Ending.{Ending}
use Rattle.attending.specs.declared.manner.Ending.TheVariants.{By, Rejected as Rejecting}
use Rattle.wire.specs.declared.answer.Tally.{Tally}
use Rattle.wire.specs.declared.engine.End.{End}
use Rattle.wire.specs.declared.engine.End.TheVariants.{Line}
use Rattle.wire.specs.declared.engine.WireError.{WireError}
use Rattle.wire.specs.declared.engine.WireError.TheVariants.{Read, Write, Memory}
use Rattle.shared.specs.SessionError.{SessionError}
use Rattle.shared.specs.SessionError.TheVariants as error
use Rattle.tokens.specs.declared.error.ScriptError.{ScriptError}
use Rattle.tokens.specs.declared.error.ScriptErrorKind.{ScriptErrorKind}
use Rattle.tokens.specs.declared.error.ScriptErrorKind.TheVariants as kind
use Rattle.answers.specs.declared.exit.Exit.{Exit}
use Rattle.answers.specs.declared.exit.Exit.TheVariants.{Done, Rejected, Misuse, BadScript, BadJournal, FileFailed, Limit}

-- the conversation ended by a line that is too long
abbrev pub is_too_long : End → Bool
is_too_long Line = true
is_too_long _ = false

-- After a conversation, by how it ended and what was answered: 5 where reading or writing failed; then 1 where a report was
-- rejected, 6 where a line was answered with a fault or memory ran out, 2 where a line was no command, named no event or was too
-- long; else 0.
abbrev pub exit_of : Result End WireError → Tally → Exit
exit_of (Err Read) tally = FileFailed
exit_of (Err Write) tally = FileFailed
exit_of (Err Memory) tally = Limit
exit_of (Ok end) tally = cond tally.rejected Rejected (cond tally.limit Limit (cond (nat_lt 0 tally.unjudged || is_too_long end) Misuse Done))

-- after a check line by line: that of any conversation, and 1 where its first rejected report ended it
abbrev pub attended_exit : Result Ending WireError → Tally → Exit
attended_exit (Ok Rejecting) tally = Rejected
attended_exit (Ok (By end)) tally = exit_of (Ok end) tally
attended_exit (Err error) tally = exit_of (Err error) tally

-- 1 where there is a rejected report, else 0
abbrev pub rejected_exit : ℕ → Exit
rejected_exit zero = Done
rejected_exit (suc n) = Rejected

-- after a replay: 1 where the history has a rejected report, else 0
abbrev pub replay_exit : List Entry → Exit
replay_exit h = rejected_exit (summary_of h).rejected

-- where a script is refused
abbrev pub kind_exit : ScriptErrorKind → Exit → Exit
kind_exit kind.Memory other = Limit
kind_exit k other = other

abbrev pub script_exit : ScriptError → Exit
script_exit fault = kind_exit fault.kind BadScript

-- where a session of a script doesn't open
abbrev pub opening_exit : SessionError → Exit
opening_exit (error.Script fault) = script_exit fault
opening_exit error.Device = FileFailed
opening_exit e = Limit

-- where a journal gives no session
abbrev pub journal_exit : SessionError → Exit
journal_exit error.Device = FileFailed
journal_exit error.Depth = Limit
journal_exit error.States = Limit
journal_exit error.History = Limit
journal_exit error.Memory = Limit
journal_exit (error.Script fault) = kind_exit fault.kind BadJournal
journal_exit e = BadJournal
