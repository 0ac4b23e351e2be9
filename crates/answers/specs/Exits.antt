-- The exit statuses.
use Rattle.std.specs.Prelude.{ℕ}
use Rattle.answers.specs.declared.exit.Exit.{Exit}
use Rattle.answers.specs.declared.exit.Exit.TheVariants.{Done, Rejected, Misuse, BadScript, BadJournal, FileFailed, Limit}

abbrev pub exit_code : Exit → ℕ
exit_code Done = 0
exit_code Rejected = 1
exit_code Misuse = 2
exit_code BadScript = 3
exit_code BadJournal = 4
exit_code FileFailed = 5
exit_code Limit = 6
