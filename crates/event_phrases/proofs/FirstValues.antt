-- The first values of a prefix, and the events that fit it, step by step.
use Rattle.std.proofs.Common.{◌≡◌, ℕ, suc, ◌+◌, ◌<◌, ◌≤◌, List, [], ◌∷◌, length, map, drop, get_or, Bool, true, false, cond, Option, Some, None, refl, sym, ap, ◌∙◌, arith}
use Rattle.std.proofs.lemmas.List.{drop-map}
use Rattle.alphabet.specs.Channels.{FieldValue, Values, Parts}
use Rattle.tokens.specs.declared.read_error.ReadError.{ReadError}
use Rattle.values.specs.Values.{◌>>=◌, Name, is_among, is_same}
use Rattle.values.specs.Names.{same_name}
use Rattle.values.specs.View.{Fails}
use Rattle.event_phrases.specs.Events.{field_value, value_within}
use Rattle.event_phrases.specs.Fitting.{Fitting, against, fits_field, then_fits, fitting, event_fits}
use Rattle.event_phrases.specs.Forms.{FieldPhrase, given, input, input_from, no_field}
use Rattle.event_phrases.specs.Leading.{Fit, before_more, first_fit, fit_or, leading, led_fits, led_fitting}
use Rattle.event_phrases.specs.Scopes.{Scope}
use Rattle.event_phrases.proofs.EventNumbers.{drop_item, drop_none}
use Rattle.syntax.proofs.Failing.{fails_on}

abbrev fits_or_not : Bool → Scope → Fitting
fits_or_not b s = cond b (Some (Some s)) (Some None)

-- a field that gives this value
against_value : (s : Scope) (f : FieldPhrase) (set : Values) (v w : FieldValue) → field_value s.known f ≡ Some w → fits_field f set v s ≡ against set v s (Some w)
unfolding fits_field field_value
against_value s (given t) set v w h = ap (against set v s) h
against_value s (input x) set v w h = absurd cc
against_value s (input_from x t) set v w h = absurd cc
against_value s no_field set v w h = absurd cc

abbrev LedAlike : Scope → List FieldPhrase → List Values → Type 0
LedAlike s fs sets = (vs : Values) → led_fitting (leading s.known fs sets) fs sets vs s ≡ fitting fs sets vs s

-- after fields of which the first ones have the values that they give
led_is : (s : Scope) (fs : List FieldPhrase) (sets : List Values) (vs : Values) → led_fitting (leading s.known fs sets) fs sets vs s ≡ fitting fs sets vs s
unfolding leading led_fitting before_more value_within fitting against
led_is s [] sets vs = refl
led_is s (f ∷ fs) [] vs = refl
led_is s (f ∷ fs) (set ∷ sets) vs = by (field_value s.known f) (λ vs. led_is s fs sets vs) refl
  where
    same : (v w : FieldValue) (vs : Values) → LedAlike s fs sets → field_value s.known f ≡ Some w → is_among w set ≡ true → led_fitting (w ∷ leading s.known fs sets) (f ∷ fs) (set ∷ sets) (v ∷ vs) s ≡ fitting (f ∷ fs) (set ∷ sets) (v ∷ vs) s
    same v w vs later e a =
        let more : Scope → Fitting = λ inner. fitting fs sets vs inner in
        ap (λ o. cond (is_same w v) o (Some None)) (later vs) ∙ either (is_same w v) more
        ∙ sym (ap (λ o. then_fits o more) (against_value s f set v w e ∙ ap (λ b. cond b (fits_or_not (is_same w v) s) None) a))
      where
        either : (b : Bool) (more : Scope → Fitting) → cond b (more s) (Some None) ≡ then_fits (fits_or_not b s) more
        either true more = refl
        either false more = refl

    on : (w : FieldValue) (vs : Values) → LedAlike s fs sets → field_value s.known f ≡ Some w → is_among w set ≡ true → led_fitting (w ∷ leading s.known fs sets) (f ∷ fs) (set ∷ sets) vs s ≡ fitting (f ∷ fs) (set ∷ sets) vs s
    on w [] later e a = refl
    on w (v ∷ vs) later e a = same v w vs later e a

    among : (w : FieldValue) → LedAlike s fs sets → field_value s.known f ≡ Some w → (b : Bool) → is_among w set ≡ b → led_fitting (before_more (cond b (Some w) None) (leading s.known fs sets)) (f ∷ fs) (set ∷ sets) vs s ≡ fitting (f ∷ fs) (set ∷ sets) vs s
    among w later e true a = on w vs later e a
    among w later e false a = refl

    by : (o : Option FieldValue) → LedAlike s fs sets → field_value s.known f ≡ o → led_fitting (before_more (value_within o set) (leading s.known fs sets)) (f ∷ fs) (set ∷ sets) vs s ≡ fitting (f ∷ fs) (set ∷ sets) vs s
    by None later e = refl
    by (Some w) later e = among w later e (is_among w set) refl

-- an event fits by the values that were found first as it fits by the definition
pub led_fits_is : (c : Name) (fs : List FieldPhrase) (sets : List Values) (s : Scope) → led_fits c (leading s.known fs sets) fs sets s ≡ event_fits c fs sets s
unfolding led_fits event_fits
led_fits_is c fs sets s = λ i p. cond (same_name c p.channel) (led_is s fs sets p.values i) (Some None)

-- ---- the first event that fits

abbrev pub some_fit : Option Scope → Fitting
some_fit o = Some o

module _ {R : Type 0} (view : R → Parts) (rs : List R) (es : List Parts) (all : map view rs ≡ es) (test : Parts → Fitting) where
  abbrev from_number : ℕ → Option (Option Fit)
  from_number i = first_fit test i (map view (drop i rs))

  left_are : (i : ℕ) → drop i es ≡ map view (drop i rs)
  left_are i = ap (drop i) (sym all) ∙ drop-map view i rs

  pub begun : (i : ℕ) → first_fit test i (drop i es) ≡ from_number i
  begun i = ap (first_fit test i) (left_are i)

  pub at_end : (i : ℕ) (whole : Option (Option Fit)) → whole ≡ from_number i → length rs ≤ i → whole ≡ Some None
  unfolding first_fit
  at_end i whole inv h = inv ∙ ap (λ ys. first_fit test i (map view ys)) (drop_none rs i h)

  module _ (i : ℕ) (r : R) (whole : Option (Option Fit)) (inv : whole ≡ from_number i) (h : i < length rs) (at : r ≡ get_or rs i r) where
    here : whole ≡ (test (view r) >>= fit_or i (map view (drop (i + 1) rs)) (first_fit test (suc i) (map view (drop (i + 1) rs))))
    unfolding first_fit
    here = inv ∙ ap (λ ys. first_fit test i (map view ys)) (drop_item rs i r h at)

    with_fit : (o : Fitting) → test (view r) ≡ o → whole ≡ (o >>= fit_or i (map view (drop (i + 1) rs)) (first_fit test (suc i) (map view (drop (i + 1) rs))))
    with_fit o e = here ∙ ap (λ o. o >>= fit_or i (map view (drop (i + 1) rs)) (first_fit test (suc i) (map view (drop (i + 1) rs)))) e

    pub fault_at : (k : ReadError) → Fails k (test (view r)) → Fails k whole
    fault_at k f = fails_on k (test (view r)) whole (λ e. with_fit None e) f

    pub passed : test (view r) ≡ Some None → whole ≡ from_number (i + 1)
    unfolding fit_or
    passed e =
        let n : suc i ≡ i + 1 = omega arith in
        with_fit (Some None) e ∙ ap (λ k. first_fit test k (map view (drop (i + 1) rs))) n

    pub found_at : (s : Scope) → test (view r) ≡ Some (Some s) → whole ≡ Some (Some (i, s, drop (suc i) es))
    unfolding fit_or
    found_at s e =
        let n : i + 1 ≡ suc i = omega arith in
        with_fit (Some (Some s)) e ∙ ap (λ (ps : List Parts). Some (Some (i, s, ps))) (ap (λ k. map view (drop k rs)) n ∙ sym (left_are (suc i)))

-- an option that is no value
pub none_if : {X : Type 0} (o : Option X) → ((x : X) → o ≡ Some x → ⊥) → o ≡ None
none_if None h = refl
none_if (Some x) h = absurd (h x refl)
