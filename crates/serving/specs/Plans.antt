-- How a run of a server goes, by its plan.
use Rattle.std.specs.Prelude.{◌≡◌, ℕ, Bool, true, false, cond, List, Option}
use Rattle.term.specs.Specs.{Specified}
use Rattle.shared.specs.Entry.{Entry}
use Rattle.wire.specs.Faults.{Fault}
use Rattle.connections.specs.declared.outcome.Ending.{Ending}
use Rattle.connections.specs.declared.totals.Totals.{Totals}
use Rattle.connections.specs.declared.services.Terms.{Terms}
use Rattle.connections.specs.Services.{IsSum}
use Rattle.serving.specs.Runs.{Went}
use Rattle.serving.specs.Services.{Ran}
use Rattle.serving.specs.declared.runs.Plan.{Plan}
use Rattle.serving.specs.declared.runs.Plan.TheVariants.{Over, Idle, Stopped}

-- This came of connections that ended so, where the lines that weren't judged are counted, or passed over.
abbrev pub IsTotal : Bool → List Ending → Totals → Type 0
IsTotal counts endings totals = (all : Totals) × IsSum endings all × (totals ≡ cond counts all (record all { unjudged = 0 }))

-- on what terms a service runs
abbrev pub terms_of : Bool → ℕ → Terms
terms_of until_idle retries = record { threads = 64; until_idle = until_idle; retries = retries }

-- For an accept that takes such connections, fails, or waits for one, of readers and writers that know these bytes, where a connection is closed
-- and told a fault so.
module _ {L R W : Type 0} (takes : L → R → W → L → Type 0) (fails waits : L → L → Type 0) (left : R → Option (List ℕ)) (closed : R → Type 0) (contents : W → Option (List ℕ)) (tells : W → Fault → Type 0) where
  -- The run of a session of this specification that began with the first history, and ended with the second: what came of its connections, one by
  -- one and together.
  abbrev pub WentBy : L → Plan → ℕ → Bool → Specified → List Entry → List Entry → Totals → Bool → Type 0
  WentBy accept (Over count) retries counts spec opening history totals accept_failed =
      (endings : List Ending) × (answered : Option ℕ) × Went takes fails left closed contents tells accept count spec opening history endings accept_failed answered × IsTotal counts endings totals
  WentBy accept Idle retries counts spec opening history totals accept_failed =
      (answered : ℕ) × Ran takes fails waits left closed contents tells accept (terms_of true retries) 64 spec opening history totals accept_failed answered
  WentBy accept Stopped retries counts spec opening history totals accept_failed =
      (answered : ℕ) × Ran takes fails waits left closed contents tells accept (terms_of false retries) 64 spec opening history totals accept_failed answered
