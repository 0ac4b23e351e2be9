-- What is written of a history.
use Rattle.std.proofs.Common.{◌≡◌, ◌⊎◌, inl, inr, ◌<◌, ℕ, List, None, Option, Some, ◌++◌, Result, Ok, Err, IsErrOf, OnOk, sym, ap, ◌∙◌, append_assoc, subst}
use Rattle.std.specs.Io.KnownBytes.{Appends}
use Rattle.std.proofs.KnownBytes.{Appends-trans}
use Rattle.term.specs.Specs.{Specified}
use Rattle.shared.specs.Entry.{Entry}
use Rattle.shared.specs.Entries.{summary_of}
use Rattle.shared.specs.Summary.{Summary}
use Rattle.shown.specs.declared.options.Options.{Options}
use Rattle.shown.specs.Shows.{Writes}
use Rattle.shown.specs.Showings.{Begun, HasShown}
use Rattle.shown.specs.declared.error.ShowError.{ShowError}
use Rattle.shown.specs.declared.error.ShowError.TheVariants.{Memory, Output}
use Rattle.program.specs.Showings.{WritesAll, summary_text}

-- the lines but for their end, and then that and the counts
pub all_written : {T E : Type 0} (r : Result T E) (spec : Specified) (h : List Entry) (options : Options) (old mid new : Option (List ℕ)) (left : List ℕ) (counts : Summary) → counts ≡ summary_of h →
    Writes options spec h old mid left → OnOk r (Appends mid new (left ++ summary_text options.format counts)) → OnOk r (WritesAll spec h options old new)
all_written (Err e) spec h options old mid new left counts same lines written = written
all_written (Ok x) spec h options old mid new left counts same lines written =
    let last = summary_text options.format counts in (
      lines.0 ++ (left ++ last),
      record { lines = lines.0 ++ left; shows = lines.1; text_is = sym (append_assoc lines.0 left last) ∙ ap (λ s. (lines.0 ++ left) ++ summary_text options.format s) same },
      Appends-trans old mid new lines.0 (left ++ last) lines.2 written,
    )

-- the error of a result that is one
error_in : {T E : Type 0} → E → Result T E → E
error_in other (Ok x) = other
error_in other (Err e) = e

-- two results that are the same error have the same one
pub same_error : {T E : Type 0} (e other : E) → IsErrOf {T = T} (Err e) other → e ≡ other
unfolding error_in
same_error e other is = ap (error_in e) is

-- what was written is that of the same history, wanted in the same way, since the same output
pub writes_as : (options now : Options) (spec read : Specified) (h : List Entry) (old began new : Option (List ℕ)) (left : List ℕ) → now ≡ options → read ≡ spec → began ≡ old → Writes now read h began new left → Writes options spec h old new left
writes_as options now spec read h old began new left wanted same start writes =
    subst (λ (o : Options). Writes o spec h old new left) wanted
    (subst (λ (s : Specified). Writes now s h old new left) same
    (subst (λ (c : Option (List ℕ)). Writes now read h c new left) start writes))

-- a showing that ended well has an output that never failed
pub never_failed : {W : Type 0} (contents : W → Option (List ℕ)) (failures : W → ℕ) (s : Begun W) (w old : W) (spec : Specified) (h : List Entry) → HasShown contents failures s w spec h → s.began ≡ old → s.fault ≡ None → failures w ≡ failures old
never_failed contents failures s w old spec h has start sound = (has.sound sound).steady ∙ ap failures start

-- one whose output failed has an output that did
pub has_failed : {W : Type 0} (contents : W → Option (List ℕ)) (failures : W → ℕ) (s : Begun W) (w old : W) (spec : Specified) (h : List Entry) → HasShown contents failures s w spec h → s.began ≡ old
    → (error : ShowError) → (error ≡ Memory) ⊎ (s.fault ≡ Some error) → error ≡ Output → failures old < failures w
has_failed contents failures s w old spec h has start error (inl memory) output = absurd (cc)
has_failed contents failures s w old spec h has start error (inr fault) output = subst (λ (v : _). failures v < failures w) start (has.failed (fault ∙ ap Some output))
