-- What a server comes to, from its journal to its exit status.
use Rattle.std.specs.Prelude.{◌≡◌, ◌≢◌, ◌⊎◌, ◌<◌, ℕ, Bool, true, List, [], Option, None, IsTrue}
use Rattle.std.specs.Io.KnownBytes.{Appends}
use Rattle.disk.specs.State.{DiskState, FolderState}
use Rattle.disk.specs.Calls.{Continues}
use Rattle.disk.specs.Runs.{LeavesOnly}
use Rattle.term.specs.Proc.{bodies_of}
use Rattle.term.specs.Specs.{Specified}
use Rattle.term.specs.declared.names.Names.{Names}
use Rattle.term.specs.declared.names.Names.TheVariants.{Bodies}
use Rattle.journal.specs.Journal.{Held}
use Rattle.wire.specs.Faults.{Fault}
use Rattle.wire.specs.Replies.{status_text}
use Rattle.answers.specs.declared.exit.Exit.{Exit}
use Rattle.shared.specs.Beginnings.{StartsWith}
use Rattle.shared.specs.Entry.{Entry}
use Rattle.shared.specs.Entries.{summary_of}
use Rattle.shared.specs.Legal.{Legal}
use Rattle.shared.specs.Scripts.{IsReadAs, IsReplayOf}
use Rattle.shared.specs.SessionView.{SessionView, IsBegun, IsFor, IsOn, IsRecorded}
use Rattle.shared.specs.Summary.{Summary}
use Rattle.large_sessions.specs.Parts as parts
use Rattle.large_sessions.specs.PartsError.{PartsError}
use Rattle.large_sessions.specs.Recorder.{in_folder}
use Rattle.large_sessions.specs.Sessions.{AreReplayOf}
use Rattle.attending.specs.Courses.{status_by}
use Rattle.connections.specs.declared.totals.Totals.{Totals}
use Rattle.serving.specs.Statuses.{service_status}
use Rattle.serving.specs.declared.opening.OpenError.{OpenError}
use Rattle.serving.specs.Held as one
use Rattle.serving.specs.Held.{Holds, IsDevice, IsLeft, IsOutside, IsUnheld}
use Rattle.serving.specs.HeldInParts as several
use Rattle.serving.specs.HeldInParts.{AreNew, AreUnheld, AreUnheldFor, HoldAlike, HoldSession}
use Rattle.serving.specs.Plans.{WentBy}
use Rattle.program.specs.declared.served.Demand.{Demand}
use Rattle.program.specs.declared.served.Line.{Line}
use Rattle.program.specs.declared.served.Line.TheVariants.{Written, Unwritten, Unmade}
use Rattle.program.specs.declared.served.Unserved.{Unserved}
use Rattle.program.specs.declared.served.Unserved.TheVariants.{Unopened, Shut, Memory}

-- ---- the end

-- what was written where this became of the line with these counts, of a session that is closed or not; it is left out where the output failed or memory ran out alone
abbrev pub IsWritten : Line → Summary → Bool → Option (List ℕ) → Option (List ℕ) → Type 0 → Type 0
IsWritten Written summary closed old new failed = Appends old new (status_text (status_by summary closed))
IsWritten Unwritten summary closed old new failed = failed
IsWritten Unmade summary closed old new failed = new ≡ old

-- The exit status is that of a run with these totals, and with an accept that failed or not. Where the line couldn't be written, it is as if
-- an accept had failed; where there was no memory for it, as if a limit had been met.
abbrev pub IsEnd : Line → Bool → Totals → Bool → Exit → Type 0
IsEnd Written closed totals accept_failed exit = exit ≡ (service_status closed accept_failed totals)
IsEnd Unwritten closed totals accept_failed exit = exit ≡ (service_status closed true totals)
IsEnd Unmade closed totals accept_failed exit = exit ≡ (service_status closed accept_failed (record totals { limit = true }))

-- both
abbrev pub IsTold : Line → Summary → Bool → Totals → Bool → Option (List ℕ) → Option (List ℕ) → Type 0 → Exit → Type 0
IsTold line summary closed totals accept_failed old new failed exit = IsWritten line summary closed old new failed × IsEnd line closed totals accept_failed exit

-- ---- the connections

-- For doors that are opened and closed so; for an accept that takes such connections, fails, or waits for one, of readers and writers that know
-- these bytes, where a connection is closed and told a fault so.
module _ {S L R W : Type 0} (opens : S → Option (List ℕ) → Option (List ℕ) → L → S → Type 0) (closes : S → Totals → Bool → S → Type 0)
    (takes : L → R → W → L → Type 0) (fails waits : L → L → Type 0) (left : R → Option (List ℕ)) (closed : R → Type 0) (contents : W → Option (List ℕ)) (tells : W → Fault → Type 0) where
  -- A session of this specification that began with the first history, and ended with the second, closed by its device or not, was served as was
  -- asked: the doors were opened, this came of the connections that were taken, the doors were closed after that, and the line of the counts was
  -- written last, or not, since the output failed or there was no memory for it, with the status that goes with it.
  pub record IsServedBy (demand : Demand) (spec : Specified) (opening history : List Entry) (is_closed : Bool) (doors doors_then : S) (old new : Option (List ℕ)) (failed : Type 0) (line : Line) (exit : Exit) : Type 0 where
    pub accept : L
    pub open_doors : S
    pub told : Option (List ℕ)
    pub totals : Totals
    pub accept_failed : Bool
    pub opened : opens doors old told accept open_doors
    pub went : WentBy takes fails waits left closed contents tells accept demand.plan demand.retries demand.counts spec opening history totals accept_failed
    pub shut : closes open_doors totals accept_failed doors_then
    pub ended : IsTold line (summary_of history) is_closed totals accept_failed told new failed exit

-- ---- a journal that is one file

-- From a disk to the session that was served on it: the script denotes this specification for the root, the file held the opening, and the history
-- is legal and begins with it. While the session is open, its file is read as that very history, and so is each that a crash leaves. Once the disk
-- stood so that its file was read as the opening, a crash at any moment left one that is read as a history which begins with the opening; and before
-- that, where the file wasn't empty, none but such a one or one that a crash might have left already.
pub record IsServedOn {D : Type 0} (state : D → DiskState) (names : Names) (before : DiskState) (script root : List ℕ) (spec : Specified) (opening : List Entry) (session : SessionView (Held D)) : Type 0 where
  pub read : IsReadAs names script root spec
  pub spec_is : session.spec ≡ spec
  pub held : IsTrue before.claims_bytes → Holds names before.bytes script root spec opening
  pub begins : StartsWith session.history opening
  pub legal : Legal (bodies_of spec.bodies) session.history
  pub continues : Continues before (state session.journal.disk)
  pub stands : session.failed ≡ None → IsTrue before.claims_bytes → IsReplayOf (state session.journal.disk).bytes script root spec session.history
  pub any_crash : session.failed ≡ None → IsTrue before.claims_bytes → IsTrue before.claims_files
      → (file : List ℕ) → (state session.journal.disk).leaves file → IsReplayOf file script root spec session.history
  pub opened : D
  pub goes : Continues before (state opened)
  pub stood : IsTrue before.claims_bytes → IsReplayOf (state opened).bytes script root spec opening
  pub since : IsTrue before.claims_bytes → IsTrue before.claims_files
      → LeavesOnly (state opened) (state session.journal.disk) (λ file. (h : List Entry) × StartsWith h opening × IsReplayOf file script root spec h)
  pub any_moment : IsTrue before.claims_bytes → IsTrue before.claims_files → before.bytes ≢ []
      → LeavesOnly before (state session.journal.disk) (λ file. before.leaves file ⊎ ((h : List Entry) × StartsWith h opening × IsReplayOf file script root spec h))

-- there is no session on the disk, for this reason, and this is left of its file
pub record IsUnopenedOn {D : Type 0} (state : D → DiskState) (names : Names) (before : DiskState) (script root : List ℕ) (error : OpenError) (disk : D) : Type 0 where
  pub why : IsUnheld names before script root error
  pub left : IsTrue before.claims_bytes → IsLeft before.bytes error (state disk)
  pub continues : Continues before (state disk)
  pub cause : IsDevice error → before.failures < (state disk).failures

-- the session was opened, and no report was taken
pub record IsOpenedOn {D : Type 0} (state : D → DiskState) (names : Names) (before : DiskState) (script root : List ℕ) (session : SessionView (Held D)) : Type 0 where
  pub read : IsReadAs names script root session.spec
  pub begun : IsBegun session.spec session.history session
  pub kept : IsFor state script root session
  pub held : IsTrue before.claims_bytes → Holds names before.bytes script root session.spec session.history
  pub continues : Continues before (state session.journal.disk)

-- What may come in place of serving the session of this specification and history that the file holds: what may come in place of opening it, or
-- no door.
abbrev pub IsInPlace : {D : Type 0} → List ℕ → Specified → List Entry → Unserved D (Held D) → Type 0
IsInPlace file spec h (Unopened error disk) = one.IsInPlace file spec error
IsInPlace file spec h (Shut exit session) = IsBegun spec h session
IsInPlace file spec h Memory = Unit {0}

-- ---- a journal in parts

-- The same of a folder and a session whose journal is in parts.
pub record AreServedIn {F : Type 0} (state : F → FolderState) (size : ℕ) (before : FolderState) (script root : List ℕ) (spec : Specified) (opening : List Entry) (session : SessionView (parts.Held F)) : Type 0 where
  pub read : IsReadAs Bodies script root spec
  pub spec_is : session.spec ≡ spec
  pub held : IsTrue before.claims_bytes → HoldSession size before.bytes script root spec opening
  pub begins : StartsWith session.history opening
  pub legal : Legal (bodies_of spec.bodies) session.history
  pub continues : Continues before (state session.journal.folder)
  pub stand : session.failed ≡ None → IsTrue before.claims_bytes → AreReplayOf size (state session.journal.folder).bytes script root spec session.history
  pub any_crash : session.failed ≡ None → IsTrue before.claims_bytes → IsTrue before.claims_files
      → (files : List (List ℕ)) → (state session.journal.folder).leaves files → AreReplayOf size files script root spec session.history
  pub opened : F
  pub go : Continues before (state opened)
  pub stood : IsTrue before.claims_bytes → AreReplayOf size (state opened).bytes script root spec opening
  pub since : IsTrue before.claims_bytes → IsTrue before.claims_files
      → LeavesOnly (state opened) (state session.journal.folder) (λ files. (h : List Entry) × StartsWith h opening × AreReplayOf size files script root spec h)
  pub any_moment : IsTrue before.claims_bytes → IsTrue before.claims_files → (AreNew before.bytes → ⊥)
      → LeavesOnly before (state session.journal.folder) (λ files. before.leaves files ⊎ (HoldAlike size before.bytes files ⊎ ((h : List Entry) × StartsWith h opening × AreReplayOf size files script root spec h)))

-- there is no session in the folder, for this reason, and this is left of its files
pub record AreUnopenedIn {F : Type 0} (state : F → FolderState) (size : ℕ) (before : FolderState) (script root : List ℕ) (error : OpenError) (folder : F) : Type 0 where
  pub why : AreUnheld size before script root error
  pub untouched : (IsOutside error → ⊥) → IsTrue before.claims_bytes → (state folder).bytes ≡ before.bytes
  pub continues : Continues before (state folder)
  pub cause : IsDevice error → before.failures < (state folder).failures

-- the session was opened, and no report was taken
pub record AreOpenedIn {F : Type 0} (state : F → FolderState) (size : ℕ) (before : FolderState) (script root : List ℕ) (session : SessionView (parts.Held F)) : Type 0 where
  pub read : IsReadAs Bodies script root session.spec
  pub begun : IsOn session.spec session.history session.gone session
  pub kept : IsRecorded (in_folder state) script root session
  pub held : IsTrue before.claims_bytes → HoldSession size before.bytes script root session.spec session.history
  pub continues : Continues before (state session.journal.folder)

-- what may come in place of serving the session of this specification and history that the files hold
abbrev pub AreInPlace : {F : Type 0} → List (List ℕ) → Specified → List Entry → Unserved F (parts.Held F) → Type 0
AreInPlace files spec h (Unopened error folder) = several.IsInPlace files spec error
AreInPlace files spec h (Shut exit session) = (session.spec ≡ spec) × (session.history ≡ h)
AreInPlace files spec h Memory = Unit {0}

-- ---- both

-- Why nothing was served, where this is so of an error and the disk, and that of a session that was opened: there is no session, or there is one, but
-- no door, for which the status is the doors' own. Out of memory says nothing.
abbrev pub IsUnserved : {D J : Type 0} → (OpenError → D → Type 0) → (SessionView J → Type 0) → (Exit → Type 0) → Unserved D J → Type 0
IsUnserved is_unopened is_opened refuses (Unopened error disk) = is_unopened error disk
IsUnserved is_unopened is_opened refuses (Shut exit session) = refuses exit × is_opened session
IsUnserved is_unopened is_opened refuses Memory = Unit {0}

-- no door could be opened for this session
abbrev pub IsShutOn : {D J : Type 0} → (Exit → Type 0) → SessionView J → Unserved D J → Type 0
IsShutOn refuses session (Unopened error disk) = ⊥
IsShutOn refuses session (Shut exit back) = refuses exit × (back ≡ session)
IsShutOn refuses session Memory = Unit {0}

-- it is for this reason that there is no session, or for the device or memory
abbrev pub IsUnopenedFor : {D J : Type 0} → OpenError → Unserved D J → Type 0
IsUnopenedFor why (Unopened error disk) = (error ≡ why) ⊎ IsOutside error
IsUnopenedFor why (Shut exit session) = ⊥
IsUnopenedFor why Memory = ⊥

-- it is for this fault of the files that there is no session
abbrev pub AreUnopenedFor : {D J : Type 0} → ℕ → List (List ℕ) → PartsError → Unserved D J → Type 0
AreUnopenedFor size files fault (Unopened error folder) = AreUnheldFor size files fault error
AreUnopenedFor size files fault (Shut exit session) = ⊥
AreUnopenedFor size files fault Memory = ⊥

-- Where there is no session the doors stay as they were, and nothing is written; where memory ran out after that, they were opened.
abbrev pub IsBefore : {D J S L : Type 0} → (S → Option (List ℕ) → Option (List ℕ) → L → S → Type 0) → S → S → Option (List ℕ) → Option (List ℕ) → Unserved D J → Type 0
IsBefore opens doors doors_then old new (Unopened error disk) = (doors_then ≡ doors) × (new ≡ old)
IsBefore opens doors doors_then old new (Shut exit session) = Unit {0}
IsBefore {D} {J} {S} {L} opens doors doors_then old new Memory = (accept : L) × opens doors old new accept doors_then
