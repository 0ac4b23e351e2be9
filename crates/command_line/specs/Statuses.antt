-- The exit statuses of the commands, where more than one call of `program` or `serving` decides.
use Rattle.program.specs.Exits.{script_exit, journal_exit}
use Rattle.answers.specs.declared.exit.Exit.{Exit}
use Rattle.answers.specs.declared.exit.Exit.TheVariants.{BadJournal, FileFailed, Limit}
use Rattle.serving.specs.declared.opening.OpenError.{OpenError}
use Rattle.serving.specs.declared.opening.OpenError.TheVariants.{Begin, Replay, OtherSpecification}
use Rattle.program.specs.SessionError.{SessionError}
use Rattle.program.specs.SessionError.TheVariants.{Script, Device}

-- where no new session begins on an empty journal
abbrev pub begin_exit : SessionError → Exit
begin_exit (Script fault) = script_exit fault
begin_exit Device = FileFailed
begin_exit error = Limit

-- where `serve` has no session
abbrev pub open_exit : OpenError → Exit
open_exit (Begin error) = begin_exit error
open_exit (Replay error) = journal_exit error
open_exit OtherSpecification = BadJournal
