-- What the files of a journal in parts give a session of a script, and how what is said of a folder after a look at it is said of it before.
use Rattle.std.proofs.Common.{◌≡◌, ◌⊎◌, inl, inr, ⊎_elim, ℕ, ◌<◌, ◌^◌, List, [], length, get_or, Result, IfOk, IfErr, MatchResult, IsTrue, refl, sym, ◌∙◌, ap, subst, arith}
use Rattle.disk.specs.State.{FolderState}
use Rattle.disk.specs.Calls.{Continues}
use Rattle.disk.specs.Runs.{LeavesOnly}
use Rattle.disk.proofs.Moments.{continues_on, run_more, weaker}
use Rattle.term.specs.Specs.{Specified}
use Rattle.term.specs.declared.names.Names.TheVariants.{Bodies}
use Rattle.journal.specs.declared.version.Version.{Version}
use Rattle.shared.specs.Entry.{Entry}
use Rattle.shared.specs.SessionError.TheVariants.{Device}
use Rattle.shared.specs.Scripts.{IsReadAs}
use Rattle.shared.specs.SessionView.{IsOn, SessionView}
use Rattle.shared.proofs.Keeping.{if_ok}
use Rattle.shared.proofs.ScriptLemmas.{if_err}
use Rattle.large_sessions.specs.Faults.{HaveFault}
use Rattle.large_sessions.specs.Parts.{Held, IsAlike, IsOf}
use Rattle.large_sessions.specs.PartsError.{PartsError}
use Rattle.large_sessions.specs.Sessions.{AreReplayOf, HaveNoSession, IsStartOf, Replayed}
use Rattle.large_sessions.proofs.Firsts.{hold_first}
use Rattle.large_sessions.proofs.Going.{leaves_on}
use Rattle.serving.specs.declared.opening.OpenError.{OpenError}
use Rattle.serving.specs.declared.opening.OpenError.TheVariants.{Begin, Replay, OtherSpecification}
use Rattle.serving.specs.Held.{IsDevice, IsOutside}
use Rattle.serving.specs.HeldInParts.{AreNew, AreOfAnother, AreUnheld, AreUnheldFor, HoldAlike, HoldSession, IsInPlace}
use Rattle.serving.specs.Openings.{OpensParts}
use Rattle.serving.proofs.Openings.{match_map, no_journal}

-- ---- files

-- new files are no journal
pub no_parts : (size : ℕ) (files : List (List ℕ)) (script root : List ℕ) (spec : Specified) (h : List Entry) → AreNew files → AreReplayOf size files script root spec h → ⊥
no_parts size files script root spec h (inl none) r =
    let first = hold_first size files r.version script root r.records r.hold in
    let longer = ap length (sym none ∙ first.files_are) in
    omega (arith, longer)
no_parts size files script root spec h (inr empty) r =
    let first = hold_first size files r.version script root r.records r.hold in
    no_journal first.file r.version script root first.own (ap (λ (l : List (List ℕ)). get_or l 0 []) (sym first.files_are ∙ empty)) first.stands

pub none_of_another : (size : ℕ) (files : List (List ℕ)) (script root : List ℕ) → AreNew files → AreOfAnother size files script root → ⊥
none_of_another size files script root new a = no_parts size files a.script_there a.root_there a.spec a.history new a.hold

-- new files hold a session without entries
pub new_of : (size : ℕ) (files : List (List ℕ)) (script root : List ℕ) (spec : Specified) (h : List Entry) → AreNew files → HoldSession size files script root spec h → IsReadAs Bodies script root spec × (h ≡ [])
new_of size files script root spec h new (inl e) = (e.1, e.2)
new_of size files script root spec h new (inr r) = absurd (no_parts size files script root spec h new r.0)

-- and files that aren't new what their journal does
pub there_of : (size : ℕ) (files : List (List ℕ)) (script root : List ℕ) (spec : Specified) (h : List Entry) → (AreNew files → ⊥) → HoldSession size files script root spec h → AreReplayOf size files script root spec h × (spec.names ≡ Bodies)
there_of size files script root spec h there (inl e) = absurd (there e.0)
there_of size files script root spec h there (inr r) = r

-- what is said of files and a size, said of the same
pub at_files : (P : ℕ → List (List ℕ) → Type 0) (n size : ℕ) (a files : List (List ℕ)) → n ≡ size → a ≡ files → P n a → P size files
at_files P n size a files is same p = subst (λ (m : ℕ). P m files) is (subst (λ (l : List (List ℕ)). P n l) same p)

-- a session that went on, of its own specification and history
pub on_itself : {J : Type 0} (t : SessionView J) (spec : Specified) (h : List Entry) (count : ℕ) → IsOn spec h count t → IsOn t.spec t.history t.gone t
on_itself t spec h count is = record { spec_is = refl; history_is = refl; gone = refl; offered = is.offered; failed = is.failed; given = is.given }

-- and of a script, a root, a specification and a history
pub replay_at : (size : ℕ) (files : List (List ℕ)) (a script b root : List ℕ) (x spec : Specified) (l h : List Entry) → a ≡ script → b ≡ root → x ≡ spec → l ≡ h → AreReplayOf size files a b x l → AreReplayOf size files script root spec h
replay_at size files a script b root x spec l h script_is root_is spec_is history_is r =
    subst (λ (i : List Entry). AreReplayOf size files script root spec i) history_is
    (subst (λ (s : Specified). AreReplayOf size files script root s l) spec_is
    (subst (λ (t : List ℕ). AreReplayOf size files script t x l) root_is (subst (λ (t : List ℕ). AreReplayOf size files t b x l) script_is r)))

-- ---- a journal that was read, part by part: how it was after the first part, and at the end

module _ {F : Type 0} (state : F → FolderState) (old : FolderState) (size : ℕ) (p r : Replayed F) (v : Version) (script root : List ℕ) (of : IsOf p.opened.held v script root size) (alike : IsAlike p.opened.held r.opened.held)
    (first : Continues old (state p.opened.held.folder)) (first_bytes : IsTrue old.claims_bytes → (state p.opened.held.folder).bytes ≡ old.bytes)
    (second : Continues (state p.opened.held.folder) (state r.opened.held.folder)) (second_bytes : IsTrue (state p.opened.held.folder).claims_bytes → (state r.opened.held.folder).bytes ≡ (state p.opened.held.folder).bytes) where
  pub claims_there : IsTrue old.claims_bytes → IsTrue (state p.opened.held.folder).claims_bytes
  claims_there claims = subst IsTrue (sym first.bytes_claim) claims

  pub claims_last : IsTrue old.claims_bytes → IsTrue (state r.opened.held.folder).claims_bytes
  claims_last claims = subst IsTrue (sym second.bytes_claim) (claims_there claims)

  pub kept_there : IsTrue old.claims_files → IsTrue (state p.opened.held.folder).claims_files
  kept_there claims = subst IsTrue (sym first.files_claim) claims

  pub kept_last : IsTrue old.claims_files → IsTrue (state r.opened.held.folder).claims_files
  kept_last claims = subst IsTrue (sym second.files_claim) (kept_there claims)

  pub bytes_last : IsTrue old.claims_bytes → (state r.opened.held.folder).bytes ≡ old.bytes
  bytes_last claims = second_bytes (claims_there claims) ∙ first_bytes claims

  -- what the end says of its files
  pub last_files : (P : ℕ → List (List ℕ) → Type 0) → IsTrue old.claims_bytes → P r.opened.held.size (state r.opened.held.folder).bytes → P size old.bytes
  last_files P claims = at_files P r.opened.held.size size (state r.opened.held.folder).bytes old.bytes (alike.size ∙ of.size_is) (bytes_last claims)

  -- and what is said of the files is said of those there
  pub files_last : (P : ℕ → List (List ℕ) → Type 0) → IsTrue old.claims_bytes → P size old.bytes → P r.opened.held.size (state r.opened.held.folder).bytes
  files_last P claims = at_files P size r.opened.held.size old.bytes (state r.opened.held.folder).bytes (sym (alike.size ∙ of.size_is)) (sym (bytes_last claims))

  -- files that have no fault at the end had none
  pub no_fault_last : (IsTrue (state r.opened.held.folder).claims_bytes → (fault : PartsError) → HaveFault r.opened.held.size (state r.opened.held.folder).bytes fault → ⊥) → IsTrue old.claims_bytes → (fault : PartsError) → HaveFault size old.bytes fault → ⊥
  no_fault_last none claims fault has = none (claims_last claims) fault (files_last (λ (n : ℕ) (files : List (List ℕ)). HaveFault n files fault) claims has)

  -- a session that the files hold begins with what was taken over
  pub start_of : (a b : List ℕ) (spec : Specified) (h : List Entry) → IsTrue old.claims_bytes → AreReplayOf size old.bytes a b spec h
      → (AreReplayOf p.opened.held.size (state p.opened.held.folder).bytes a b spec h → IsStartOf r a b spec h) → IsStartOf r a b spec h
  start_of a b spec h claims it step =
      step (at_files (λ (n : ℕ) (files : List (List ℕ)). AreReplayOf n files a b spec h) size p.opened.held.size old.bytes (state p.opened.held.folder).bytes (sym of.size_is) (sym (first_bytes claims)) it)

  -- it is of the header's script and root
  pub header_of_start : (a b : List ℕ) (spec : Specified) (h : List Entry) → IsStartOf r a b spec h → (script ≡ a) × (root ≡ b)
  header_of_start a b spec h s = (sym (alike.script ∙ of.script_is) ∙ s.script_is, sym (alike.root ∙ of.root_is) ∙ s.root_is)

  -- the files hold what was taken over
  pub held_last : (h : List Entry) → IsTrue old.claims_bytes → AreReplayOf r.opened.held.size (state r.opened.held.folder).bytes r.opened.held.script r.opened.held.root r.taken.spec h → AreReplayOf size old.bytes script root r.taken.spec h
  held_last h claims it =
      replay_at size old.bytes r.opened.held.script script r.opened.held.root root r.taken.spec r.taken.spec h h (alike.script ∙ of.script_is) (alike.root ∙ of.root_is) refl refl
      (last_files (λ (n : ℕ) (files : List (List ℕ)). AreReplayOf n files r.opened.held.script r.opened.held.root r.taken.spec h) claims it)

  -- up to then a crash leaves what it might have left at the beginning
  pub leaves_last : IsTrue old.claims_files → LeavesOnly old (state p.opened.held.folder) old.leaves → LeavesOnly (state p.opened.held.folder) (state r.opened.held.folder) (state p.opened.held.folder).leaves → LeavesOnly old (state r.opened.held.folder) old.leaves
  leaves_last claims = leaves_on old (state p.opened.held.folder) (state r.opened.held.folder) (kept_there claims)

  -- and then what holds the same history
  pub leaves_alike : (new : FolderState) → IsTrue old.claims_bytes → AreReplayOf r.opened.held.size (state r.opened.held.folder).bytes r.opened.held.script r.opened.held.root r.taken.spec r.taken.entries
      → LeavesOnly old (state r.opened.held.folder) old.leaves
      → LeavesOnly (state r.opened.held.folder) new (λ files. AreReplayOf r.opened.held.size files r.opened.held.script r.opened.held.root r.taken.spec r.taken.entries)
      → LeavesOnly old new (λ files. old.leaves files ⊎ HoldAlike size old.bytes files)
  leaves_alike new claims it one two =
      let Left : List (List ℕ) → Type 0 = λ files. old.leaves files ⊎ HoldAlike size old.bytes files in
      let Kept : List (List ℕ) → Type 0 = λ files. AreReplayOf r.opened.held.size files r.opened.held.script r.opened.held.root r.taken.spec r.taken.entries in
      run_more old (state r.opened.held.folder) new Left
      (weaker old (state r.opened.held.folder) old.leaves Left one (λ files left. inl left))
      (weaker (state r.opened.held.folder) new Kept Left two (λ files held. inr (record {
        script = r.opened.held.script;
        root = r.opened.held.root;
        spec = r.taken.spec;
        history = r.taken.entries;
        old = last_files (λ (n : ℕ) (l : List (List ℕ)). AreReplayOf n l r.opened.held.script r.opened.held.root r.taken.spec r.taken.entries) claims it;
        new = subst (λ (n : ℕ). AreReplayOf n files r.opened.held.script r.opened.held.root r.taken.spec r.taken.entries) (alike.size ∙ of.size_is) held;
      })))

-- ---- a folder that was looked at

module _ (old mid : FolderState) (steady : Continues old mid) (bytes : IsTrue old.claims_bytes → mid.bytes ≡ old.bytes) where
  pub claims_on : IsTrue old.claims_bytes → IsTrue mid.claims_bytes
  claims_on claims = subst IsTrue (sym steady.bytes_claim) claims

  pub claims_back : IsTrue mid.claims_bytes → IsTrue old.claims_bytes
  claims_back claims = subst IsTrue steady.bytes_claim claims

  pub new_on : IsTrue mid.claims_bytes → AreNew old.bytes → AreNew mid.bytes
  new_on claims = subst AreNew (sym (bytes (claims_back claims)))

  pub new_back : IsTrue old.claims_bytes → AreNew mid.bytes → AreNew old.bytes
  new_back claims = subst AreNew (bytes claims)

  pub unheld_back : (size : ℕ) (script root : List ℕ) (e : OpenError) → AreUnheld size mid script root e → AreUnheld size old script root e
  unheld_back size script root (Begin error) why = (why.0, λ claims. new_back claims (why.1 (claims_on claims)))
  unheld_back size script root (Replay error) why = λ claims. subst (λ (files : List (List ℕ)). HaveNoSession size files error × ((AreNew files → ⊥) ⊎ (error ≡ Device))) (bytes claims) (why (claims_on claims))
  unheld_back size script root OtherSpecification why = λ claims. subst (λ (files : List (List ℕ)). AreOfAnother size files script root) (bytes claims) (why (claims_on claims))

  pub moment_back : (size : ℕ) (new : FolderState) → LeavesOnly old mid old.leaves → IsTrue old.claims_bytes → IsTrue old.claims_files
      → LeavesOnly mid new (λ files. mid.leaves files ⊎ HoldAlike size mid.bytes files) → LeavesOnly old new (λ files. old.leaves files ⊎ HoldAlike size old.bytes files)
  moment_back size new look claims files run =
      let Left : List (List ℕ) → Type 0 = λ c. old.leaves c ⊎ HoldAlike size old.bytes c in
      let first : LeavesOnly old mid Left = weaker old mid old.leaves Left look (λ c left. inl left) in
      let second : LeavesOnly mid new Left = weaker mid new (λ c. mid.leaves c ⊎ HoldAlike size mid.bytes c) Left run
      (λ c. ⊎_elim (λ left. inl (look.each c (mid.counts_now (subst IsTrue (sym steady.files_claim) files) old.moment c look.later left)))
      (λ alike. inr (subst (λ (l : List (List ℕ)). HoldAlike size l c) (bytes claims) alike))) in
      run_more old mid new Left first second

  -- what is answered then
  module _ {F : Type 0} (state : F → FolderState) (size : ℕ) (script root : List ℕ) (o : Result (SessionView (Held F)) (OpenError × F)) where
    pub held_before : IfOk o (λ s. IsTrue mid.claims_bytes → HoldSession size mid.bytes script root s.spec s.history) → IfOk o (λ s. IsTrue old.claims_bytes → HoldSession size old.bytes script root s.spec s.history)
    held_before =
        if_ok (λ s. IsTrue mid.claims_bytes → HoldSession size mid.bytes script root s.spec s.history) (λ s. IsTrue old.claims_bytes → HoldSession size old.bytes script root s.spec s.history) o
        (λ s held claims. subst (λ (files : List (List ℕ)). HoldSession size files script root s.spec s.history) (bytes claims) (held (claims_on claims)))

    pub fault_before : IfErr o (λ e. AreUnheld size mid script root e.0) → IfErr o (λ e. AreUnheld size old script root e.0)
    fault_before = if_err (λ e. AreUnheld size mid script root e.0) (λ e. AreUnheld size old script root e.0) o (λ e. unheld_back size script root e.0)

    pub only_before : (IsTrue mid.claims_bytes → (spec : Specified) (h : List Entry) → HoldSession size mid.bytes script root spec h → length h < 2 ^ 62
        → MatchResult o (λ s. (s.spec ≡ spec) × (s.history ≡ h)) (λ e. IsInPlace mid.bytes spec e.0))
        → IsTrue old.claims_bytes → (spec : Specified) (h : List Entry) → HoldSession size old.bytes script root spec h → length h < 2 ^ 62
        → MatchResult o (λ s. (s.spec ≡ spec) × (s.history ≡ h)) (λ e. IsInPlace old.bytes spec e.0)
    only_before only claims =
        subst (λ (files : List (List ℕ)). (spec : Specified) (h : List Entry) → HoldSession size files script root spec h → length h < 2 ^ 62 → MatchResult o (λ s. (s.spec ≡ spec) × (s.history ≡ h)) (λ e. IsInPlace files spec e.0))
        (bytes claims) (only (claims_on claims))

    pub other_before : (IsTrue mid.claims_bytes → (a : AreOfAnother size mid.bytes script root) → length a.history < 2 ^ 62 → MatchResult o (λ _. ⊥) (λ e. (e.0 ≡ OtherSpecification) ⊎ IsOutside e.0))
        → IsTrue old.claims_bytes → (a : AreOfAnother size old.bytes script root) → length a.history < 2 ^ 62 → MatchResult o (λ _. ⊥) (λ e. (e.0 ≡ OtherSpecification) ⊎ IsOutside e.0)
    other_before other claims =
        subst (λ (files : List (List ℕ)). (a : AreOfAnother size files script root) → length a.history < 2 ^ 62 → MatchResult o (λ _. ⊥) (λ e. (e.0 ≡ OtherSpecification) ⊎ IsOutside e.0)) (bytes claims) (other (claims_on claims))

    pub refuses_before : (IsTrue mid.claims_bytes → (AreNew mid.bytes → ⊥) → (fault : PartsError) → HaveFault size mid.bytes fault → MatchResult o (λ _. ⊥) (λ e. AreUnheldFor size mid.bytes fault e.0))
        → IsTrue old.claims_bytes → (AreNew old.bytes → ⊥) → (fault : PartsError) → HaveFault size old.bytes fault → MatchResult o (λ _. ⊥) (λ e. AreUnheldFor size old.bytes fault e.0)
    refuses_before refuses claims =
        subst (λ (files : List (List ℕ)). (AreNew files → ⊥) → (fault : PartsError) → HaveFault size files fault → MatchResult o (λ _. ⊥) (λ e. AreUnheldFor size files fault e.0)) (bytes claims) (refuses (claims_on claims))

    pub untouched_before : IfErr o (λ e. (IsOutside e.0 → ⊥) → IsTrue mid.claims_bytes → (state e.1).bytes ≡ mid.bytes) → IfErr o (λ e. (IsOutside e.0 → ⊥) → IsTrue old.claims_bytes → (state e.1).bytes ≡ old.bytes)
    untouched_before =
        if_err (λ e. (IsOutside e.0 → ⊥) → IsTrue mid.claims_bytes → (state e.1).bytes ≡ mid.bytes) (λ e. (IsOutside e.0 → ⊥) → IsTrue old.claims_bytes → (state e.1).bytes ≡ old.bytes) o
        (λ e same inside claims. same inside (claims_on claims) ∙ bytes claims)

    pub continues_before : MatchResult o (λ s. Continues mid (state s.journal.folder)) (λ e. Continues mid (state e.1)) → MatchResult o (λ s. Continues old (state s.journal.folder)) (λ e. Continues old (state e.1))
    continues_before =
        match_map (λ s. Continues mid (state s.journal.folder)) (λ s. Continues old (state s.journal.folder)) (λ e. Continues mid (state e.1)) (λ e. Continues old (state e.1)) o
        (λ s on. continues_on old mid (state s.journal.folder) steady on) (λ e on. continues_on old mid (state e.1) steady on)

    pub cause_before : IfErr o (λ e. IsDevice e.0 → mid.failures < (state e.1).failures) → IfErr o (λ e. IsDevice e.0 → old.failures < (state e.1).failures)
    cause_before =
        if_err (λ e. IsDevice e.0 → mid.failures < (state e.1).failures) (λ e. IsDevice e.0 → old.failures < (state e.1).failures) o
        (λ e more device. let counted = steady.counted in let risen = more device in omega (arith, counted, risen))

    pub moment_before : LeavesOnly old mid old.leaves → IsTrue old.claims_bytes → IsTrue old.claims_files
        → MatchResult o (λ s. LeavesOnly mid (state s.journal.folder) (λ c. mid.leaves c ⊎ HoldAlike size mid.bytes c)) (λ e. LeavesOnly mid (state e.1) (λ c. mid.leaves c ⊎ HoldAlike size mid.bytes c))
        → MatchResult o (λ s. LeavesOnly old (state s.journal.folder) (λ c. old.leaves c ⊎ HoldAlike size old.bytes c)) (λ e. LeavesOnly old (state e.1) (λ c. old.leaves c ⊎ HoldAlike size old.bytes c))
    moment_before look claims files =
        match_map (λ s. LeavesOnly mid (state s.journal.folder) (λ c. mid.leaves c ⊎ HoldAlike size mid.bytes c)) (λ s. LeavesOnly old (state s.journal.folder) (λ c. old.leaves c ⊎ HoldAlike size old.bytes c))
        (λ e. LeavesOnly mid (state e.1) (λ c. mid.leaves c ⊎ HoldAlike size mid.bytes c)) (λ e. LeavesOnly old (state e.1) (λ c. old.leaves c ⊎ HoldAlike size old.bytes c)) o
        (λ s. moment_back size (state s.journal.folder) look claims files) (λ e. moment_back size (state e.1) look claims files)

    -- all of it
    pub opens_parts_before : (IsTrue old.claims_files → LeavesOnly old mid old.leaves) → OpensParts state size mid script root o → OpensParts state size old script root o
    opens_parts_before look it = record {
      read = it.read;
      begun = it.begun;
      kept = it.kept;
      size_is = it.size_is;
      held = held_before it.held;
      fault = fault_before it.fault;
      only = only_before it.only;
      other = other_before it.other;
      refuses = refuses_before it.refuses;
      untouched = untouched_before it.untouched;
      continues = continues_before it.continues;
      cause = cause_before it.cause;
      any_moment = λ claims files there.
          moment_before (look files) claims files
          (it.any_moment (claims_on claims) (subst IsTrue (sym steady.files_claim) files) (λ new. there (new_back claims new)));
    }
