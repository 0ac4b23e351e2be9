-- What opening the session of a script comes to, on a journal that may be there already.
use Rattle.std.specs.Prelude.{◌≡◌, ◌≢◌, ◌⊎◌, ◌<◌, ◌^◌, ℕ, List, [], length, IsTrue, Result, IfOk, IfErr, MatchResult}
use Rattle.disk.specs.State.{DiskState, FolderState}
use Rattle.disk.specs.Calls.{Continues}
use Rattle.disk.specs.Runs.{LeavesOnly}
use Rattle.term.specs.Specs.{Specified}
use Rattle.term.specs.declared.names.Names.{Names}
use Rattle.term.specs.declared.names.Names.TheVariants.{Bodies}
use Rattle.journal.specs.declared.error.JournalError.{JournalError}
use Rattle.journal.specs.Faults.{HasFault}
use Rattle.journal.specs.Journal.{Held, StandsAlike}
use Rattle.shared.specs.Entry.{Entry}
use Rattle.shared.specs.Scripts.{IsReadAs}
use Rattle.shared.specs.SessionFaults.{journal_error}
use Rattle.shared.specs.SessionView.{SessionView, IsBegun, IsFor, IsOn, IsRecorded}
use Rattle.large_sessions.specs.Faults.{HaveFault}
use Rattle.large_sessions.specs.Parts as parts
use Rattle.large_sessions.specs.PartsError.{PartsError}
use Rattle.large_sessions.specs.Recorder.{in_folder}
use Rattle.serving.specs.declared.opening.OpenError.{OpenError}
use Rattle.serving.specs.declared.opening.OpenError.TheVariants.{Replay, OtherSpecification}
use Rattle.serving.specs.Held.{Holds, IsDevice, IsInPlace, IsLeft, IsOfAnother, IsOutside, IsUnheld}
use Rattle.serving.specs.HeldInParts as several
use Rattle.serving.specs.HeldInParts.{AreNew, AreOfAnother, AreUnheld, AreUnheldFor, HoldAlike, HoldSession}

-- From a disk, where names are kept so, to the session on it, or to an error and the disk.
--
-- The session is of what the script denotes for the root, and the one that the file holds (`read` to `held`); or there is none for this reason
-- (`fault`). A file that holds a session gives it, a journal of another script, root or way of keeping names is refused as that, and one that
-- has a fault for it: device and memory apart (`only`, `other`, `refuses`). This is left of the file (`left`), and the device has failed, if that
-- is the error (`cause`). Of a file that isn't empty, every crash leaves one that a crash at the beginning might have left, or one that holds the
-- same records (`any_moment`).
pub record Opens {D : Type 0} (state : D → DiskState) (names : Names) (before : DiskState) (script root : List ℕ) (result : Result (SessionView (Held D)) (OpenError × D)) : Type 0 where
  pub read : IfOk result (λ s. IsReadAs names script root s.spec)
  pub begun : IfOk result (λ s. IsBegun s.spec s.history s)
  pub kept : IfOk result (IsFor state script root)
  pub held : IfOk result (λ s. IsTrue before.claims_bytes → Holds names before.bytes script root s.spec s.history)
  pub fault : IfErr result (λ e. IsUnheld names before script root e.0)
  pub only : IsTrue before.claims_bytes → (spec : Specified) (h : List Entry) → Holds names before.bytes script root spec h
      → MatchResult result (IsBegun spec h) (λ e. IsInPlace before.bytes spec e.0)
  pub other : IsTrue before.claims_bytes → IsOfAnother names before.bytes script root → MatchResult result (λ _. ⊥) (λ e. (e.0 ≡ OtherSpecification) ⊎ IsOutside e.0)
  pub refuses : IsTrue before.claims_bytes → before.bytes ≢ [] → (error : JournalError) → HasFault before.bytes error
      → MatchResult result (λ _. ⊥) (λ e. (e.0 ≡ Replay (journal_error error)) ⊎ IsOutside e.0)
  pub left : IfErr result (λ e. IsTrue before.claims_bytes → IsLeft before.bytes e.0 (state e.1))
  pub continues : MatchResult result (λ s. Continues before (state s.journal.disk)) (λ e. Continues before (state e.1))
  pub cause : IfErr result (λ e. IsDevice e.0 → before.failures < (state e.1).failures)
  pub any_moment : IsTrue before.claims_bytes → IsTrue before.claims_files → before.bytes ≢ [] → MatchResult result
      (λ s. LeavesOnly before (state s.journal.disk) (λ c. before.leaves c ⊎ StandsAlike before.bytes c))
      (λ e. LeavesOnly before (state e.1) (λ c. before.leaves c ⊎ StandsAlike before.bytes c))

-- The same of a folder, where names are kept as their bodies and a part takes so many records. Files of 2^62 entries aren't opened. Where the
-- error isn't one of the device or of memory, nothing was written (`untouched`). Where a journal is there, every crash leaves files that a crash at
-- the beginning might have left, or ones that hold the same history.
pub record OpensParts {F : Type 0} (state : F → FolderState) (size : ℕ) (before : FolderState) (script root : List ℕ) (result : Result (SessionView (parts.Held F)) (OpenError × F)) : Type 0 where
  pub read : IfOk result (λ s. IsReadAs Bodies script root s.spec)
  pub begun : IfOk result (λ s. IsOn s.spec s.history s.gone s)
  pub kept : IfOk result (IsRecorded (in_folder state) script root)
  pub size_is : IfOk result (λ s. s.journal.size ≡ size)
  pub held : IfOk result (λ s. IsTrue before.claims_bytes → HoldSession size before.bytes script root s.spec s.history)
  pub fault : IfErr result (λ e. AreUnheld size before script root e.0)
  pub only : IsTrue before.claims_bytes → (spec : Specified) (h : List Entry) → HoldSession size before.bytes script root spec h → length h < 2 ^ 62
      → MatchResult result (λ s. (s.spec ≡ spec) × (s.history ≡ h)) (λ e. several.IsInPlace before.bytes spec e.0)
  pub other : IsTrue before.claims_bytes → (a : AreOfAnother size before.bytes script root) → length a.history < 2 ^ 62
      → MatchResult result (λ _. ⊥) (λ e. (e.0 ≡ OtherSpecification) ⊎ IsOutside e.0)
  pub refuses : IsTrue before.claims_bytes → (AreNew before.bytes → ⊥) → (fault : PartsError) → HaveFault size before.bytes fault
      → MatchResult result (λ _. ⊥) (λ e. AreUnheldFor size before.bytes fault e.0)
  pub untouched : IfErr result (λ e. (IsOutside e.0 → ⊥) → IsTrue before.claims_bytes → (state e.1).bytes ≡ before.bytes)
  pub continues : MatchResult result (λ s. Continues before (state s.journal.folder)) (λ e. Continues before (state e.1))
  pub cause : IfErr result (λ e. IsDevice e.0 → before.failures < (state e.1).failures)
  pub any_moment : IsTrue before.claims_bytes → IsTrue before.claims_files → (AreNew before.bytes → ⊥) → MatchResult result
      (λ s. LeavesOnly before (state s.journal.folder) (λ files. before.leaves files ⊎ HoldAlike size before.bytes files))
      (λ e. LeavesOnly before (state e.1) (λ files. before.leaves files ⊎ HoldAlike size before.bytes files))
