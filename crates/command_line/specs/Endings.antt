-- How a run of the server ends.
use Rattle.std.specs.Prelude.{◌≡◌, ℕ, Bool, List, Option}
use Rattle.term.specs.Proc.{bodies_of}
use Rattle.term.specs.Specs.{Specified}
use Rattle.term.specs.declared.names.Names.{Names}
use Rattle.connections.specs.declared.totals.Totals.{Totals}
use Rattle.script.specs.Reading.{IsRead}
use Rattle.serving.specs.Beginnings.{StartsWith}
use Rattle.serving.specs.Entries.{summary_of}
use Rattle.serving.specs.Entry.{Entry}
use Rattle.serving.specs.Legal.{Legal}
use Rattle.program.specs.Servers.{IsTold}
use Rattle.program.specs.declared.served.Line.{Line}
use Rattle.program.specs.declared.served.Unserved.{Unserved}
use Rattle.program.specs.declared.served.Unserved.TheVariants.{Unopened, Shut, Memory}
use Rattle.answers.specs.declared.exit.Exit.{Exit}
use Rattle.answers.specs.declared.exit.Exit.TheVariants.{BadScript, BadJournal, FileFailed, Limit}

-- the statuses where a script's file, the journal or the address can't be used, the script or the journal is refused, or no session opens
abbrev pub IsUnserved : Exit → Type 0
IsUnserved BadScript = Unit {0}
IsUnserved BadJournal = Unit {0}
IsUnserved FileFailed = Unit {0}
IsUnserved Limit = Unit {0}
IsUnserved _ = ⊥

-- where no door opened, its status is one of these
abbrev pub IsShutFor : {D J : Type 0} → Unserved D J → Type 0
IsShutFor (Unopened error disk) = Unit {0}
IsShutFor (Shut exit session) = IsUnserved exit
IsShutFor Memory = Unit {0}

-- A session of what some script denotes for the process, with names kept so, was served. It has a legal history, which begins with the one that it
-- was opened with. What was written last is the line with the counts of that history, if it could be made and written, and the exit status goes
-- with it; it wasn't written only where the output has failed, or memory ran out.
pub record IsServedFor (names : Names) (process : List ℕ) (new : Option (List ℕ)) (failed : Type 0) (exit : Exit) : Type 0 where
  pub script : List ℕ
  pub spec : Specified
  pub read : IsRead script process spec
  pub names_are : spec.names ≡ names
  pub opening : List Entry
  pub history : List Entry
  pub begins : StartsWith history opening
  pub legal : Legal (bodies_of spec.bodies) history
  pub line : Line
  pub closed : Bool
  pub totals : Totals
  pub accept_failed : Bool
  pub old : Option (List ℕ)
  pub told : IsTold line (summary_of history) closed totals accept_failed old new failed exit
