-- The status that a run of a server ends with.
use Rattle.std.specs.Prelude.{◌==◌, Bool, cond}
use Rattle.answers.specs.declared.exit.Exit.{Exit}
use Rattle.answers.specs.declared.exit.Exit.TheVariants as status
use Rattle.connections.specs.declared.totals.Totals.{Totals}

-- How a run ends whose session was closed or not, where an accept failed or not: what ended all comes first, then a rejected report, then a
-- line that wasn't judged, and then a limit.
abbrev pub service_status : Bool → Bool → Totals → Exit
service_status closed accept_failed totals =
    cond closed status.BadJournal (cond accept_failed status.FileFailed
    (cond totals.rejected status.Rejected (cond (totals.unjudged == 0) (cond totals.limit status.Limit status.Done) status.Misuse)))
