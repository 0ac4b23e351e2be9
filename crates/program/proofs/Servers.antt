-- What a server comes to, from what its calls say.
use Rattle.std.proofs.Common.{◌≡◌, ◌≢◌, ◌⊎◌, inl, inr, ⊎_elim, ℕ, None, List, [], ◌∷◌, ◌++◌, Option, refl, sym, subst, IsTrue, Result, Ok, Err, IfOk, IfErr, MatchResult}
use Rattle.disk.specs.State.{DiskState, FolderState}
use Rattle.disk.specs.Calls.{Continues}
use Rattle.disk.specs.Runs.{LeavesOnly}
use Rattle.disk.proofs.Moments.{continues_on, run_more, weaker}
use Rattle.term.specs.Proc.{bodies_of}
use Rattle.term.specs.Specs.{Specified}
use Rattle.term.specs.declared.names.Names.{Names}
use Rattle.term.specs.declared.names.Names.TheVariants.{Bodies}
use Rattle.journal.specs.declared.version.Version.{Version}
use Rattle.journal.specs.Format.{Recorded, Stands}
use Rattle.journal.specs.Journal.{Held, StandsAlike}
use Rattle.journal.proofs.Laws.{stands_for_one}
use Rattle.answers.specs.declared.exit.Exit.{Exit}
use Rattle.shared.specs.Beginnings.{StartsWith}
use Rattle.shared.specs.Entry.{Entry}
use Rattle.shared.specs.Lasting.{Lasts}
use Rattle.shared.specs.Legal.{IsJudged, Legal}
use Rattle.shared.specs.Reading.{IsRead}
use Rattle.shared.specs.Recorder.{Recording, on_disk}
use Rattle.shared.specs.Records.{AreReports, Keeps, names_of, records_of}
use Rattle.shared.specs.Scripts.{IsReplayOf}
use Rattle.shared.specs.SessionView.{SessionView, IsRecorded}
use Rattle.shared.proofs.Beginnings.{begins_self}
use Rattle.shared.proofs.Keeping.{left_open}
use Rattle.shared.proofs.ScriptLemmas.{crashed_file, open_file}
use Rattle.parts.specs.declared.part.Part.{Part}
use Rattle.parts.specs.Format.{Hold, IsPart, whole}
use Rattle.large_sessions.specs.Parts as parts
use Rattle.large_sessions.specs.Recorder.{AreOf, in_folder}
use Rattle.large_sessions.specs.Sessions.{AreReplayOf}
use Rattle.serving.specs.declared.opening.OpenError.{OpenError}
use Rattle.serving.specs.HeldInParts.{AreNew, HoldAlike}
use Rattle.serving.specs.Served.{WasServed}
use Rattle.serving.proofs.Openings.{journal_of}
use Rattle.serving.proofs.Standing.{served_left, served_parts_left}
use Rattle.program.specs.declared.served.Served.{Served}
use Rattle.program.specs.declared.served.Unserved.{Unserved}
use Rattle.program.specs.declared.served.Unserved.TheVariants.{Unopened, Shut, Memory}
use Rattle.program.specs.Servers.{AreOpenedIn, AreServedIn, IsOpenedOn, IsServedOn, IsShutOn, IsUnserved}

-- what the calls say of a session that was served and given back
pub record WasGivenBack {J : Type 0} (r : Recording J) (opened closed : SessionView J) : Type 0 where
  pub judged_first : IsJudged opened.spec opened.history
  pub reports_first : AreReports opened.spec.alphabet opened.history
  pub names_first : opened.spec.names ≡ names_of (r.version opened.journal)
  pub begins : StartsWith closed.history opened.history
  pub legal : Legal (bodies_of opened.spec.bodies) closed.history
  pub lasts : Lasts r opened closed
  pub judged : IsJudged closed.spec closed.history
  pub reports : AreReports closed.spec.alphabet closed.history
  pub names_are : closed.spec.names ≡ names_of (r.version closed.journal)

-- ---- a journal that is one file

-- the file holds the same records as the other
alike_replay : (one other script root : List ℕ) (spec : Specified) (h : List Entry) → IsReplayOf one script root spec h → StandsAlike one other → IsReplayOf other script root spec h
alike_replay one other script root spec h r (v, s, t, records, here, there) =
    let same = stands_for_one one v r.version s t script root records r.records here r.stands in
    record {
      version = r.version;
      records = r.records;
      stands =
          subst (λ (w : Version). Stands other w script root r.records) same.0
          (subst (λ (x : List ℕ). Stands other v x root r.records) same.1
          (subst (λ (x : List ℕ). Stands other v s x r.records) same.2
          (subst (λ (l : List Recorded). Stands other v s t l) same.3 there)));
      read = r.read;
      replay = r.replay;
    }

-- what the calls say of a session that was opened on a disk, served and given back
pub record WasServedOn {D : Type 0} (state : D → DiskState) (names : Names) (before : DiskState) (script root : List ℕ) (opened closed : SessionView (Held D)) : Type 0 where
  pub opened_on : IsOpenedOn state names before script root opened
  pub any_moment : IsTrue before.claims_bytes → IsTrue before.claims_files → before.bytes ≢ []
      → LeavesOnly before (state opened.journal.disk) (λ c. before.leaves c ⊎ StandsAlike before.bytes c)
  pub back : WasGivenBack (on_disk state) opened closed

module _ {D : Type 0} (state : D → DiskState) (names : Names) (before : DiskState) (script root : List ℕ) (opened closed : SessionView (Held D)) (w : WasServedOn state names before script root opened closed) where
  claims_opened : IsTrue before.claims_bytes → IsTrue (state opened.journal.disk).claims_bytes
  claims_opened claims = subst IsTrue (sym w.opened_on.continues.bytes_claim) claims

  files_opened : IsTrue before.claims_files → IsTrue (state opened.journal.disk).claims_files
  files_opened files = subst IsTrue (sym w.opened_on.continues.files_claim) files

  goes : Continues before (state closed.journal.disk)
  goes = continues_on before (state opened.journal.disk) (state closed.journal.disk) w.opened_on.continues w.back.lasts.continues

  read_still : IsRead script root closed.spec
  read_still = subst (λ (s : Specified). IsRead script root s) (sym w.back.lasts.spec_is) w.opened_on.read.read

  abbrev HasBegun : List ℕ → Type 0
  HasBegun file = (h : List Entry) × StartsWith h opened.history × IsReplayOf file script root opened.spec h

  since : IsTrue before.claims_bytes → IsTrue before.claims_files → LeavesOnly (state opened.journal.disk) (state closed.journal.disk) HasBegun
  since claims files =
      let was : WasServed (on_disk state) names script root opened closed = record { read = w.opened_on.read; kept = w.opened_on.kept; names_are = w.back.names_first; lasts = w.back.lasts } in
      served_left state names script root opened closed was (claims_opened claims) (files_opened files)

  moment : IsTrue before.claims_bytes → IsTrue before.claims_files → before.bytes ≢ [] → LeavesOnly before (state closed.journal.disk) (λ file. before.leaves file ⊎ HasBegun file)
  moment claims files some =
      let Left : List ℕ → Type 0 = λ file. before.leaves file ⊎ HasBegun file in
      let was = journal_of names before.bytes script root opened.spec opened.history some (w.opened_on.held claims) in
      let first : LeavesOnly before (state opened.journal.disk) Left =
      weaker before (state opened.journal.disk) (λ c. before.leaves c ⊎ StandsAlike before.bytes c) Left (w.any_moment claims files some)
      (λ c. ⊎_elim (λ left. inl left) (λ alike. inr (opened.history, begins_self opened.history, alike_replay before.bytes c script root opened.spec opened.history was.0 alike))) in
      let second : LeavesOnly (state opened.journal.disk) (state closed.journal.disk) Left = weaker (state opened.journal.disk) (state closed.journal.disk) HasBegun Left (since claims files) (λ c has. inr has) in
      run_more before (state opened.journal.disk) (state closed.journal.disk) Left first second

  pub served_on : IsServedOn state names before script root opened.spec opened.history closed
  served_on = record {
    read = w.opened_on.read;
    spec_is = w.back.lasts.spec_is;
    held = w.opened_on.held;
    begins = w.back.begins;
    legal = w.back.legal;
    continues = goes;
    stands = λ is_open claims.
        subst (λ (s : Specified). IsReplayOf (state closed.journal.disk).bytes script root s closed.history) w.back.lasts.spec_is
        (open_file state closed script root w.back.judged w.back.names_are w.back.reports is_open (w.back.lasts.kept script root w.opened_on.kept) read_still (subst IsTrue (sym goes.bytes_claim) claims));
    any_crash = λ is_open claims files file left.
        subst (λ (s : Specified). IsReplayOf file script root s closed.history) w.back.lasts.spec_is
        (crashed_file state closed script root w.back.judged w.back.names_are w.back.reports is_open (w.back.lasts.kept script root w.opened_on.kept) read_still (subst IsTrue (sym goes.bytes_claim) claims) (subst IsTrue (sym goes.files_claim) files) file left);
    opened = opened.journal.disk;
    goes = w.opened_on.continues;
    stood = λ claims. open_file state opened script root w.back.judged_first w.back.names_first w.back.reports_first w.opened_on.begun.failed w.opened_on.kept w.opened_on.read.read (claims_opened claims);
    since = since;
    any_moment = moment;
  }

-- ---- a journal in parts

-- what the calls say of a session that was opened in a folder, served and given back
pub record WasServedIn {F : Type 0} (state : F → FolderState) (size : ℕ) (before : FolderState) (script root : List ℕ) (opened closed : SessionView (parts.Held F)) : Type 0 where
  pub opened_in : AreOpenedIn state size before script root opened
  pub size_is : opened.journal.size ≡ size
  pub any_moment : IsTrue before.claims_bytes → IsTrue before.claims_files → (AreNew before.bytes → ⊥)
      → LeavesOnly before (state opened.journal.folder) (λ files. before.leaves files ⊎ HoldAlike size before.bytes files)
  pub back : WasGivenBack (in_folder state) opened closed

-- the files of an open session hold its history
holds_here : {F : Type 0} (state : F → FolderState) (h : parts.Held F) (script root : List ℕ) (records : List Recorded) → AreOf state h script root records → IsTrue (state h.folder).claims_bytes → Hold h.size (state h.folder).bytes h.version script root records
holds_here state h script root records of claims =
    let at = of.at in
    let e = at.files claims in
    let file : List ℕ = whole h.version h.part h.script h.root at.last ++ e.byte ∷ [] in
    let is : IsPart h.version h.part h.script h.root at.last file = record { gate = e.byte; rest = []; shut = e.shut; is = refl } in
    let here : Hold h.size (state h.folder).bytes h.version h.script h.root records = record {
      formed = at.counted.formed;
      full = at.full;
      last = at.last;
      earlier = e.earlier;
      ending = file ∷ [];
      records_are = at.counted.records_are;
      files_are = e.is;
      are_full = e.are_full;
      ends = inl (file, refl, subst (λ (p : Part). IsPart h.version p h.script h.root at.last file) at.counted.part_is is, at.counted.fits);
    } in
    subst (λ (s : List ℕ). Hold h.size (state h.folder).bytes h.version s root records) of.script_is (subst (λ (r : List ℕ). Hold h.size (state h.folder).bytes h.version h.script r records) of.root_is here)

files_replay : {F : Type 0} (t : SessionView (parts.Held F)) (size : ℕ) (files : List (List ℕ)) (script root : List ℕ) → Hold size files t.journal.version script root (records_of t.journal.version t.spec.alphabet t.history) → IsRead script root t.spec
    → IsJudged t.spec t.history → AreReports t.spec.alphabet t.history → t.spec.names ≡ names_of t.journal.version → AreReplayOf size files script root t.spec t.history
files_replay t size files script root hold read judged reports names = record {
  version = t.journal.version;
  records = records_of t.journal.version t.spec.alphabet t.history;
  hold = hold;
  read = record { read = read; names_are = names };
  replay = record { judged = judged; reports = reports; records_are = refl };
}

module _ {F : Type 0} (state : F → FolderState) (size : ℕ) (before : FolderState) (script root : List ℕ) (opened closed : SessionView (parts.Held F)) (w : WasServedIn state size before script root opened closed) where
  claims_in : IsTrue before.claims_bytes → IsTrue (state opened.journal.folder).claims_bytes
  claims_in claims = subst IsTrue (sym w.opened_in.continues.bytes_claim) claims

  go : Continues before (state closed.journal.folder)
  go = continues_on before (state opened.journal.folder) (state closed.journal.folder) w.opened_in.continues w.back.lasts.continues

  -- in parts of this size
  in_size : (records : List Recorded) (files : List (List ℕ)) → Hold closed.journal.size files closed.journal.version script root records → Hold size files closed.journal.version script root records
  in_size records files hold =
      let there : Hold opened.journal.size files opened.journal.version script root records = (w.back.lasts.alike.holds script root records files).0 hold in
      subst (λ (n : ℕ). Hold n files closed.journal.version script root records) w.size_is
      (subst (λ (v : Version). Hold opened.journal.size files v script root records) (sym w.back.lasts.alike.version) there)

  kept_then : IsRecorded (in_folder state) script root closed
  kept_then = w.back.lasts.kept script root w.opened_in.kept

  replay_then : (files : List (List ℕ)) → Hold closed.journal.size files closed.journal.version script root (records_of closed.journal.version closed.spec.alphabet closed.history) → AreReplayOf size files script root opened.spec closed.history
  replay_then files hold =
      subst (λ (s : Specified). AreReplayOf size files script root s closed.history) w.back.lasts.spec_is
      (files_replay closed size files script root (in_size (records_of closed.journal.version closed.spec.alphabet closed.history) files hold)
      (subst (λ (s : Specified). IsRead script root s) (sym w.back.lasts.spec_is) w.opened_in.read.read) w.back.judged w.back.reports w.back.names_are)

  stand_then : closed.failed ≡ None → IsTrue before.claims_bytes → AreReplayOf size (state closed.journal.folder).bytes script root opened.spec closed.history
  stand_then is_open claims =
      let of : AreOf state closed.journal script root (records_of closed.journal.version closed.spec.alphabet closed.history) =
      subst (λ (f : Option Entry). Keeps (in_folder state) closed.journal script root closed.spec.alphabet closed.history closed.offered f) is_open kept_then in
      replay_then (state closed.journal.folder).bytes
      (holds_here state closed.journal script root (records_of closed.journal.version closed.spec.alphabet closed.history) of (subst IsTrue (sym go.bytes_claim) claims))

  left_then : closed.failed ≡ None → IsTrue before.claims_bytes → IsTrue before.claims_files → (files : List (List ℕ)) → (state closed.journal.folder).leaves files → AreReplayOf size files script root opened.spec closed.history
  left_then is_open claims all files left =
      replay_then files
      (left_open (in_folder state) closed.journal script root closed.spec.alphabet closed.history closed.offered closed.failed is_open kept_then (subst IsTrue (sym go.bytes_claim) claims) (subst IsTrue (sym go.files_claim) all) files left)

  stood_first : IsTrue before.claims_bytes → AreReplayOf size (state opened.journal.folder).bytes script root opened.spec opened.history
  stood_first claims =
      let of : AreOf state opened.journal script root (records_of opened.journal.version opened.spec.alphabet opened.history) =
      subst (λ (f : Option Entry). Keeps (in_folder state) opened.journal script root opened.spec.alphabet opened.history opened.offered f) w.opened_in.begun.failed w.opened_in.kept in
      subst (λ (n : ℕ). AreReplayOf n (state opened.journal.folder).bytes script root opened.spec opened.history) w.size_is
      (files_replay opened opened.journal.size (state opened.journal.folder).bytes script root (holds_here state opened.journal script root (records_of opened.journal.version opened.spec.alphabet opened.history) of (claims_in claims)) w.opened_in.read.read w.back.judged_first w.back.reports_first w.back.names_first)

  abbrev HaveBegun : ℕ → List (List ℕ) → Type 0
  HaveBegun n files = (h : List Entry) × StartsWith h opened.history × AreReplayOf n files script root opened.spec h

  since_then : IsTrue before.claims_bytes → IsTrue before.claims_files → LeavesOnly (state opened.journal.folder) (state closed.journal.folder) (HaveBegun size)
  since_then claims files =
      let was : WasServed (in_folder state) Bodies script root opened closed = record { read = w.opened_in.read; kept = w.opened_in.kept; names_are = w.back.names_first; lasts = w.back.lasts } in
      subst (λ (n : ℕ). LeavesOnly (state opened.journal.folder) (state closed.journal.folder) (HaveBegun n)) w.size_is
      (served_parts_left state Bodies script root opened closed was (claims_in claims) (subst IsTrue (sym w.opened_in.continues.files_claim) files))

  moment_then : IsTrue before.claims_bytes → IsTrue before.claims_files → (AreNew before.bytes → ⊥)
      → LeavesOnly before (state closed.journal.folder) (λ files. before.leaves files ⊎ (HoldAlike size before.bytes files ⊎ HaveBegun size files))
  moment_then claims all there =
      let Left : List (List ℕ) → Type 0 = λ files. before.leaves files ⊎ (HoldAlike size before.bytes files ⊎ HaveBegun size files) in
      let first : LeavesOnly before (state opened.journal.folder) Left =
      weaker before (state opened.journal.folder) (λ c. before.leaves c ⊎ HoldAlike size before.bytes c) Left (w.any_moment claims all there) (λ c. ⊎_elim (λ left. inl left) (λ alike. inr (inl alike))) in
      let second : LeavesOnly (state opened.journal.folder) (state closed.journal.folder) Left = weaker (state opened.journal.folder) (state closed.journal.folder) (HaveBegun size) Left (since_then claims all) (λ c has. inr (inr has)) in
      run_more before (state opened.journal.folder) (state closed.journal.folder) Left first second

  pub served_in : AreServedIn state size before script root opened.spec opened.history closed
  served_in = record {
    read = w.opened_in.read;
    spec_is = w.back.lasts.spec_is;
    held = w.opened_in.held;
    begins = w.back.begins;
    legal = w.back.legal;
    continues = go;
    stand = stand_then;
    any_crash = left_then;
    opened = opened.journal.folder;
    go = w.opened_in.continues;
    stood = stood_first;
    since = since_then;
    any_moment = moment_then;
  }

-- ---- what is answered

-- where this is so of each session that is given back, and of its answer
pub given_back : {J E : Type 0} (r : Recording J) (opened : SessionView J) (P Q : Served J → Type 0) (o : Result (Served J) E) → IsJudged opened.spec opened.history → AreReports opened.spec.alphabet opened.history
    → opened.spec.names ≡ names_of (r.version opened.journal)
    → IfOk o (λ a. (a.session.spec ≡ opened.spec) × StartsWith a.session.history opened.history × Legal (bodies_of opened.spec.bodies) a.session.history)
    → IfOk o (λ a. Lasts r opened a.session)
    → IfOk o (λ a. IsJudged a.session.spec a.session.history × AreReports a.session.spec.alphabet a.session.history × (a.session.spec.names ≡ names_of (r.version a.session.journal)))
    → IfOk o P → ((a : Served J) → WasGivenBack r opened a.session → P a → Q a) → IfOk o Q
given_back r opened P Q (Ok a) judged_first reports_first names_first session lasts judged by step =
    step a (record {
      judged_first = judged_first;
      reports_first = reports_first;
      names_first = names_first;
      begins = session.1;
      legal = session.2;
      lasts = lasts;
      judged = judged.0;
      reports = judged.1;
      names_are = judged.2;
    }) by
given_back r opened P Q (Err e) judged_first reports_first names_first session lasts judged by step = tt

-- a session that was opened, where nothing was served
pub unserved_by : {D J A : Type 0} (is_unopened : OpenError → D → Type 0) (is_opened : SessionView J → Type 0) (refuses : Exit → Type 0) (opened : SessionView J) → is_opened opened
    → (o : Result A (Unserved D J)) → IfErr o (IsShutOn refuses opened) → IfErr o (IsUnserved is_unopened is_opened refuses)
unserved_by is_unopened is_opened refuses opened is (Ok a) shut = tt
unserved_by is_unopened is_opened refuses opened is (Err (Unopened error disk)) shut = absurd shut
unserved_by {D} {J} is_unopened is_opened refuses opened is (Err (Shut exit back)) shut = (shut.0, subst is_opened (sym shut.1) is)
unserved_by is_unopened is_opened refuses opened is (Err Memory) shut = tt

-- a session that was opened is served, or in its place comes no door, or that memory ran out
pub in_place : {D J : Type 0} (P : Served J → Type 0) (Q : Unserved D J → Type 0) (refuses : Exit → Type 0) (opened : SessionView J) (o : Result (Served J) (Unserved D J)) → IfOk o P
    → ((exit : Exit) → Q (Shut exit opened)) → Q Memory → IfErr o (IsShutOn refuses opened) → MatchResult o P Q
in_place P Q refuses opened (Ok served) is no_door memory shut = is
in_place P Q refuses opened (Err (Unopened error disk)) is no_door memory shut = absurd shut
in_place {D} {J} P Q refuses opened (Err (Shut exit back)) is no_door memory shut = subst (λ (t : SessionView J). Q (Shut exit t)) (sym shut.1) (no_door exit)
in_place P Q refuses opened (Err Memory) is no_door memory shut = memory
