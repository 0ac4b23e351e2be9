-- What the end of a connection says: whether a report was rejected, and whether a limit was met.
use Rattle.std.specs.Prelude.{◌||◌, Bool, true, false, Result, Ok, Err}
use Rattle.wire.specs.Faults.{Fault}
use Rattle.answers.specs.declared.fault.Fault.TheVariants as fault
use Rattle.wire.specs.declared.engine.End.{End}
use Rattle.wire.specs.declared.engine.WireError.{WireError}
use Rattle.wire.specs.declared.engine.WireError.TheVariants.{Memory}
use Rattle.connections.specs.declared.outcome.Ending.{Ending}
use Rattle.connections.specs.declared.outcome.Ending.TheVariants.{Served, Refused, NotStarted}

-- memory ran out before the first line
abbrev pub is_out_of_memory : Result End WireError → Bool
is_out_of_memory (Ok end) = false
is_out_of_memory (Err Memory) = true
is_out_of_memory (Err error) = false

-- another cause than that the session is closed
abbrev pub is_limit : Fault → Bool
is_limit (fault.Closed x) = false
is_limit fault = true

-- a report of the connection was rejected
abbrev pub has_rejected : Ending → Bool
has_rejected (Served end tally) = tally.rejected
has_rejected ending = false

-- A line of the connection was answered with a fault, or memory ran out before the first; or it got no place for another cause than
-- that the session is closed, or no thread.
abbrev pub met_limit : Ending → Bool
met_limit (Served end tally) = tally.limit || is_out_of_memory end
met_limit (Refused fault) = is_limit fault
met_limit NotStarted = true
