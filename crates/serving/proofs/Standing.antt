-- What was answered of a session that is served stands in its file, which is read as that very history.
use Rattle.std.proofs.Common.{◌≡◌, ℕ, None, List, refl, sym, subst, IsTrue}
use Rattle.disk.specs.State.{DiskState, FolderState}
use Rattle.disk.specs.Runs.{LeavesOnly}
use Rattle.disk.proofs.Moments.{weaker}
use Rattle.term.specs.Specs.{Specified}
use Rattle.term.specs.declared.names.Names.{Names}
use Rattle.shared.specs.Beginnings.{StartsWith}
use Rattle.shared.specs.Entry.{Entry}
use Rattle.shared.specs.Lasting.{HoldsMore}
use Rattle.shared.specs.Legal.{IsJudged}
use Rattle.shared.specs.Reading.{IsRead}
use Rattle.shared.specs.Recorder.{on_disk}
use Rattle.shared.specs.Records.{AreReports, names_of, records_of}
use Rattle.shared.specs.Scripts.{IsReplayOf}
use Rattle.shared.specs.Seats.{AllTold}
use Rattle.shared.specs.SessionView.{SessionView, IsFor}
use Rattle.shared.specs.View.{SeatView}
use Rattle.shared.proofs.Keeping.{left_open}
use Rattle.journal.specs.Journal.{Held}
use Rattle.large_sessions.specs.Parts as parts
use Rattle.large_sessions.specs.Recorder.{in_folder}
use Rattle.large_sessions.specs.Sessions.{AreReplayOf}
use Rattle.serving.specs.Served.{WasServed}

-- ---- a journal that is one file

module _ {D : Type 0} (state : D → DiskState) (names : Names) (script root : List ℕ) (opened closed : SessionView (Held D)) (served : WasServed (on_disk state) names script root opened closed) where
  still_read : IsRead script root closed.spec
  still_read = subst (λ (s : Specified). IsRead script root s) (sym served.lasts.spec_is) served.read.read

  -- By what `into_disk` says of the session that is given back: while it is open, its file is read as its history, which begins with the one that was
  -- opened, with all that the seats have seen and just their answered reports.
  pub answered_stands : (seats : List SeatView) → AllTold closed.history seats → closed.failed ≡ None
      → (closed.failed ≡ None → (s t : List ℕ) → IsFor state s t closed → IsRead s t closed.spec → IsTrue (state closed.journal.disk).claims_bytes → IsReplayOf (state closed.journal.disk).bytes s t closed.spec closed.history)
      → IsTrue (state closed.journal.disk).claims_bytes
      → IsReplayOf (state closed.journal.disk).bytes script root opened.spec closed.history × StartsWith closed.history opened.history × AllTold closed.history seats
  answered_stands seats told is_open stands claims = (
    subst (λ (s : Specified). IsReplayOf (state closed.journal.disk).bytes script root s closed.history) served.lasts.spec_is
        (stands is_open script root (served.lasts.kept script root served.kept) still_read claims),
    served.lasts.begins,
    told,
  )

  -- the same of each file that a crash leaves then
  pub answered_left : (seats : List SeatView) → AllTold closed.history seats → closed.failed ≡ None
      → (closed.failed ≡ None → (s t : List ℕ) → IsFor state s t closed → IsRead s t closed.spec → IsTrue (state closed.journal.disk).claims_bytes → IsTrue (state closed.journal.disk).claims_files
      → (file : List ℕ) → (state closed.journal.disk).leaves file → IsReplayOf file s t closed.spec closed.history)
      → IsTrue (state closed.journal.disk).claims_bytes → IsTrue (state closed.journal.disk).claims_files → (file : List ℕ) → (state closed.journal.disk).leaves file
      → IsReplayOf file script root opened.spec closed.history × StartsWith closed.history opened.history × AllTold closed.history seats
  answered_left seats told is_open any_crash claims files file left = (
    subst (λ (s : Specified). IsReplayOf file script root s closed.history) served.lasts.spec_is
        (any_crash is_open script root (served.lasts.kept script root served.kept) still_read claims files file left),
    served.lasts.begins,
    told,
  )

  -- and of one that a crash left at any moment while it was served: a history that begins with the one that was opened
  pub served_left : IsTrue (state opened.journal.disk).claims_bytes → IsTrue (state opened.journal.disk).claims_files
      → LeavesOnly (state opened.journal.disk) (state closed.journal.disk) (λ file. (h : List Entry) × StartsWith h opened.history × IsReplayOf file script root opened.spec h)
  served_left claims files =
      weaker (state opened.journal.disk) (state closed.journal.disk) (HoldsMore (on_disk state) script root opened) _ (served.lasts.any_moment script root served.kept claims files)
      (λ file holds. (
        holds.history,
        holds.begins,
        record {
          version = opened.journal.version;
          records = records_of opened.journal.version opened.spec.alphabet holds.history;
          stands = holds.holds;
          read = record { read = served.read.read; names_are = served.names_are };
          replay = record { judged = holds.judged; reports = holds.reports; records_are = refl };
        },
      ))

-- ---- a journal in parts

module _ {F : Type 0} (state : F → FolderState) (names : Names) (script root : List ℕ) (opened closed : SessionView (parts.Held F)) (served : WasServed (in_folder state) names script root opened closed) where
  -- By what `history` says of the session that is given back: while it is open, all files that a crash leaves are read as its history, and so are those
  -- that are there, since they are such.
  pub answered_parts_left : (seats : List SeatView) → AllTold closed.history seats → closed.failed ≡ None → IsJudged closed.spec closed.history → AreReports closed.spec.alphabet closed.history
      → closed.spec.names ≡ names_of closed.journal.version
      → IsTrue (state closed.journal.folder).claims_bytes → IsTrue (state closed.journal.folder).claims_files → (files : List (List ℕ)) → (state closed.journal.folder).leaves files
      → AreReplayOf closed.journal.size files script root opened.spec closed.history × StartsWith closed.history opened.history × AllTold closed.history seats
  answered_parts_left seats told is_open judged reports names_are claims files all left =
      let v = closed.journal.version in
      let kept = served.lasts.kept script root served.kept in
      let replay : AreReplayOf closed.journal.size all script root closed.spec closed.history = record {
        version = v;
        records = records_of v closed.spec.alphabet closed.history;
        hold = left_open (in_folder state) closed.journal script root closed.spec.alphabet closed.history closed.offered closed.failed is_open kept claims files all left;
        read = record { read = subst (λ (s : Specified). IsRead script root s) (sym served.lasts.spec_is) served.read.read; names_are = names_are };
        replay = record { judged = judged; reports = reports; records_are = refl };
      } in
      (subst (λ (s : Specified). AreReplayOf closed.journal.size all script root s closed.history) served.lasts.spec_is replay, served.lasts.begins, told)

  -- What a crash left at any moment while it was served is read as a history that begins with the one that was opened.
  pub served_parts_left : IsTrue (state opened.journal.folder).claims_bytes → IsTrue (state opened.journal.folder).claims_files
      → LeavesOnly (state opened.journal.folder) (state closed.journal.folder) (λ files. (h : List Entry) × StartsWith h opened.history × AreReplayOf opened.journal.size files script root opened.spec h)
  served_parts_left claims files =
      weaker (state opened.journal.folder) (state closed.journal.folder) (HoldsMore (in_folder state) script root opened) _ (served.lasts.any_moment script root served.kept claims files)
      (λ c holds. (
        holds.history,
        holds.begins,
        record {
          version = opened.journal.version;
          records = records_of opened.journal.version opened.spec.alphabet holds.history;
          hold = holds.holds;
          read = record { read = served.read.read; names_are = served.names_are };
          replay = record { judged = holds.judged; reports = holds.reports; records_are = refl };
        },
      ))
