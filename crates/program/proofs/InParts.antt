-- What is shown of a journal in parts.
use Rattle.std.proofs.Common.{◌≡◌, ℕ, IsTrue, List, ◌++◌, Option, Result, Ok, Err, IfErr, IsErrAnd, MatchResult, inl, sym, ◌∙◌, subst}
use Rattle.disk.specs.State.{FolderState}
use Rattle.disk.specs.Calls.{Continues}
use Rattle.disk.proofs.Moments.{continues_on}
use Rattle.term.specs.Specs.{Specified}
use Rattle.shared.specs.Entry.{Entry}
use Rattle.shared.specs.SessionError.{SessionError}
use Rattle.large_sessions.specs.Faults.{HaveFault}
use Rattle.large_sessions.specs.PartsError.{PartsError}
use Rattle.large_sessions.specs.Sessions.{AreReplayOf, HaveNoSession, IsStartOf, Replayed}
use Rattle.large_sessions.specs.Steps.{IsFurther}
use Rattle.large_sessions.proofs.Refusing.{refused_for}
use Rattle.std.specs.Io.KnownBytes.{Appends}
use Rattle.shared.specs.Entries.{summary_of}
use Rattle.shared.specs.Summary.{Summary}
use Rattle.shown.specs.declared.options.Options.{Options}
use Rattle.program.proofs.Displays.{all_written}
use Rattle.shown.specs.Shows.{Writes}
use Rattle.program.specs.declared.showing.DisplayError.{DisplayError}
use Rattle.program.specs.declared.showing.DisplayError.TheVariants.{Session, Output}
use Rattle.program.specs.Parts.{HaveNoDisplay, HaveNoDisplayFor}
use Rattle.program.specs.Showings.{IsBeyond, WritesAll, summary_text}

-- the replay is of the folder that was in this state, whose files it left as they were
pub record IsFrom {F : Type 0} (state : F → FolderState) (s : FolderState) (size : ℕ) (r : Replayed F) : Type 0 where
  pub size_is : r.opened.held.size ≡ size
  pub goes : Continues s (state r.opened.held.folder)
  pub bytes : IsTrue s.claims_bytes → (state r.opened.held.folder).bytes ≡ s.bytes

module _ {F : Type 0} (state : F → FolderState) (s : FolderState) (size : ℕ) (r : Replayed F) (f : IsFrom state s size r) where
  pub claims_at : IsTrue s.claims_bytes → IsTrue (state r.opened.held.folder).claims_bytes
  claims_at claims = subst IsTrue (sym f.goes.bytes_claim) claims

  -- what the files held, they hold
  pub replay_at : (script root : List ℕ) (spec : Specified) (h : List Entry) → IsTrue s.claims_bytes → AreReplayOf size s.bytes script root spec h → AreReplayOf r.opened.held.size (state r.opened.held.folder).bytes script root spec h
  replay_at script root spec h claims is =
      subst (λ (n : ℕ). AreReplayOf n (state r.opened.held.folder).bytes script root spec h) (sym f.size_is)
      (subst (λ (l : List (List ℕ)). AreReplayOf size l script root spec h) (sym (f.bytes claims)) is)

  -- and what they hold, they held
  pub replay_from : (script root : List ℕ) (spec : Specified) (h : List Entry) → (IsTrue (state r.opened.held.folder).claims_bytes → AreReplayOf r.opened.held.size (state r.opened.held.folder).bytes script root spec h)
      → IsTrue s.claims_bytes → AreReplayOf size s.bytes script root spec h
  replay_from script root spec h is claims =
      subst (λ (n : ℕ). AreReplayOf n s.bytes script root spec h) f.size_is
      (subst (λ (l : List (List ℕ)). AreReplayOf r.opened.held.size l script root spec h) (f.bytes claims) (is (claims_at claims)))

  pub fault_from : (e : SessionError) → (IsTrue (state r.opened.held.folder).claims_bytes → HaveNoSession r.opened.held.size (state r.opened.held.folder).bytes e) → IsTrue s.claims_bytes → HaveNoSession size s.bytes e
  fault_from e why claims =
      subst (λ (n : ℕ). HaveNoSession n s.bytes e) f.size_is (subst (λ (l : List (List ℕ)). HaveNoSession r.opened.held.size l e) (f.bytes claims) (why (claims_at claims)))

  -- files that have no fault had none
  pub no_fault_from : (IsTrue (state r.opened.held.folder).claims_bytes → (fault : PartsError) → HaveFault r.opened.held.size (state r.opened.held.folder).bytes fault → ⊥) → IsTrue s.claims_bytes → (fault : PartsError) → HaveFault size s.bytes fault → ⊥
  no_fault_from none claims fault has =
      none (claims_at claims) fault (subst (λ (n : ℕ). HaveFault n (state r.opened.held.folder).bytes fault) (sym f.size_is) (subst (λ (l : List (List ℕ)). HaveFault size l fault) (sym (f.bytes claims)) has))

  -- more was read
  pub from_on : (new : Replayed F) → IsFurther state r new → IsFrom state s size new
  from_on new w = record {
    size_is = w.alike.size ∙ f.size_is;
    goes = continues_on s (state r.opened.held.folder) (state new.opened.held.folder) f.goes w.goes;
    bytes = λ claims. w.bytes (claims_at claims) ∙ f.bytes claims;
  }

-- all was read of files that hold a session which begins so
pub ends_at : {F : Type 0} (state : F → FolderState) (s : FolderState) (size : ℕ) (r : Replayed F) → IsFrom state s size r
    → (IsTrue (state r.opened.held.folder).claims_bytes → (script root : List ℕ) (spec : Specified) (h : List Entry) → AreReplayOf r.opened.held.size (state r.opened.held.folder).bytes script root spec h → IsStartOf r script root spec h → h ≡ r.taken.entries)
    → IsTrue s.claims_bytes → (script root : List ℕ) (spec : Specified) (h : List Entry) → AreReplayOf size s.bytes script root spec h → IsStartOf r script root spec h → (r.taken.spec ≡ spec) × (r.taken.entries ≡ h)
ends_at state s size r f all claims script root spec h is start =
    (start.spec_is, sym (all (claims_at state s size r f claims) script root spec h (replay_at state s size r f script root spec h claims is) start))

-- what is beyond the files is why they aren't displayed
pub no_display : (size : ℕ) (files : List (List ℕ)) (e : DisplayError) → IsBeyond e → HaveNoDisplay size files e
no_display size files (Session error) beyond = inl beyond
no_display size files Output beyond = tt

-- so files with a fault aren't, for it
pub refused_display : (size : ℕ) (files : List (List ℕ)) (fault : PartsError) (e : DisplayError) → HaveFault size files fault → HaveNoDisplay size files e → HaveNoDisplayFor size files fault e
refused_display size files fault (Session error) has why = refused_for size files fault error has why
refused_display size files fault Output has why = tt

-- the lines but for their end, and then that and the counts
pub written_all : (spec : Specified) (h : List Entry) (options : Options) (old mid new : Option (List ℕ)) (left : List ℕ) (counts : Summary) → counts ≡ summary_of h → Writes options spec h old mid left
    → Appends mid new (left ++ summary_text options.format counts) → WritesAll spec h options old new
written_all spec h options old mid new left counts same lines written = all_written {T = Unit {0}} {E = Unit {0}} (Ok tt) spec h options old mid new left counts same lines written

-- what is known of an error
pub err_match : {T E : Type 0} (r : Result T E) (P : E → Type 0) (Q : T → Type 0) (R : E → Type 0) → IsErrAnd r P → ((e : E) → P e → R e) → MatchResult r Q R
err_match (Ok x) P Q R has step = absurd has
err_match (Err e) P Q R has step = step e has

pub err_and : {T E : Type 0} (r : Result T E) (P R : E → Type 0) → IsErrAnd r P → ((e : E) → P e → R e) → IfErr r R
err_and (Ok x) P R has step = absurd has
err_and (Err e) P R has step = step e has
