-- What stays of a session while reports are taken.
use Rattle.std.specs.Prelude.{◌≡◌, ◌<◌, ℕ, List, IsTrue, IsSome, Option, None}
use Rattle.disk.specs.Calls.{Continues}
use Rattle.disk.specs.Runs.{LeavesOnly}
use Rattle.term.specs.Specs.{Specified}
use Rattle.session.specs.Entry.{Entry}
use Rattle.session.specs.Beginnings.{StartsWith}
use Rattle.session.specs.Legal.{IsJudged}
use Rattle.session.specs.Recorder.{HoldAlike, Recording}
use Rattle.session.specs.Records.{AreReports, Keeps, records_of}
use Rattle.session.specs.View.{SessionView, IsRecorded}

-- The content is a journal, as the session's takes them, of this script and root, and of a history that the session may have, which begins with
-- the one that it has.
pub record HoldsMore {J : Type 0} (r : Recording J) (script root : List ℕ) (t : SessionView J) (c : r.Content) : Type 0 where
  pub history : List Entry
  pub begins : StartsWith history t.history
  pub judged : IsJudged t.spec history
  pub reports : AreReports t.spec.alphabet history
  pub holds : r.holds t.journal script root (records_of (r.version t.journal) t.spec.alphabet history) c

-- From a session to one with this specification, history, offered entries, fault and journal: the specification is the same, and the history begins
-- with the one before. For each script and root for which the journal was one, it is one, of the longer history; it takes the same contents. The
-- device has failed since, if that closed the session. And a crash at any moment since then left a journal of that script and root, of a history
-- that begins with the one before.
pub record Remains {J : Type 0} (r : Recording J) (old : SessionView J) (spec : Specified) (history offered : List Entry) (failed : Option Entry) (journal : J) : Type 0 where
  pub spec_is : spec ≡ old.spec
  pub begins : StartsWith history old.history
  pub kept : (script root : List ℕ) → IsRecorded r script root old → Keeps r journal script root spec.alphabet history offered failed
  pub alike : HoldAlike r old.journal journal
  pub continues : Continues (r.state old.journal) (r.state journal)
  pub cause : old.failed ≡ None → IsSome failed → (r.state old.journal).failures < (r.state journal).failures
  pub any_moment : (script root : List ℕ) → IsRecorded r script root old → IsTrue (r.state old.journal).claims_bytes → IsTrue (r.state old.journal).claims_files
      → LeavesOnly (r.state old.journal) (r.state journal) (HoldsMore r script root old)

-- the same of both
abbrev pub Lasts : {J : Type 0} → Recording J → SessionView J → SessionView J → Type 0
Lasts r old new = Remains r old new.spec new.history new.offered new.failed new.journal
