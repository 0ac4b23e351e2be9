-- Fields against values, one field after the other, as slices give them.
use Rattle.std.proofs.Common.{◌≡◌, ◌-◌, ◌<◌, ◌≤◌, List, [], ◌∷◌, ◌++◌, length, map, take, drop, get_or, Bool, true, false, cond, ◌||◌, nat_eq, Option, Some, None, refl, sym, ap, ap₂, ◌∙◌, arith, append-nil, append_assoc, eqb-true}
use Rattle.alphabet.specs.Channels.{FieldValue, Values}
use Rattle.syntax.specs.Grammar.{Syntax}
use Rattle.values.specs.Values.{Name, is_same}
use Rattle.values.specs.Worths.{Known}
use Rattle.event_phrases.specs.Events.{field_value, value_within}
use Rattle.event_phrases.specs.Forms.{FieldPhrase, field_of}
use Rattle.event_phrases.specs.Fitting.{Fitting, fits_field, fitting, then_fits}
use Rattle.event_phrases.specs.Leading.{before_more, leading, led_fitting}
use Rattle.event_phrases.specs.Prefixes.{has_event}
use Rattle.event_phrases.specs.Scopes.{Scope}
use Rattle.event_phrases.specs.Uses.{is_used, is_within}
use Rattle.event_phrases.proofs.Options.{some_is}
use Rattle.event_phrases.proofs.Scopes.{first_item, rest_is}

abbrev not_fitting : Fitting
not_fitting = Some None

-- what fits, where the scope after the fields is this
abbrev pub fit_if : Scope → Bool → Fitting
fit_if n b = Some (cond b (Some n) None)

abbrev pub some_values : Values → Option Values
some_values vs = Some vs

abbrev pub some_found : Option FieldValue → Option (Option FieldValue)
some_found o = Some o

-- ---- events against fields

module _ {F S V : Type 0} (field : F → Syntax) (set : S → Values) (value : V → FieldValue) where
  abbrev fit : List F → List S → List V → Scope → Fitting
  fit fs sets vs s = fitting (map field_of (map field fs)) (map set sets) (map value vs) s

  pub fit_done : (fs : List F) (sets : List S) (vs : List V) (s : Scope) → length fs < 1 → length sets < 1 → length vs < 1 → fit fs sets vs s ≡ Some (Some s)
  unfolding fitting
  fit_done [] [] [] s h k l = refl
  fit_done (f ∷ fs) sets vs s h k l = absurd (omega (arith, h))
  fit_done [] (g ∷ sets) vs s h k l = absurd (omega (arith, k))
  fit_done [] [] (v ∷ vs) s h k l = absurd (omega (arith, l))

  pub fit_values_left : (fs : List F) (sets : List S) (vs : List V) (s : Scope) → length fs < 1 → length sets < 1 → 1 ≤ length vs → fit fs sets vs s ≡ None
  unfolding fitting
  fit_values_left [] [] (v ∷ vs) s h k l = refl
  fit_values_left (f ∷ fs) sets vs s h k l = absurd (omega (arith, h))
  fit_values_left [] (g ∷ sets) vs s h k l = absurd (omega (arith, k))
  fit_values_left [] [] [] s h k l = absurd (omega (arith, l))

  pub fit_sets_left : (fs : List F) (sets : List S) (vs : List V) (s : Scope) → length fs < 1 → 1 ≤ length sets → fit fs sets vs s ≡ None
  unfolding fitting
  fit_sets_left [] (g ∷ sets) vs s h k = refl
  fit_sets_left (f ∷ fs) sets vs s h k = absurd (omega (arith, h))
  fit_sets_left [] [] vs s h k = absurd (omega (arith, k))

  pub fit_no_sets : (fs : List F) (sets : List S) (vs : List V) (s : Scope) → 1 ≤ length fs → length sets < 1 → fit fs sets vs s ≡ None
  unfolding fitting
  fit_no_sets (f ∷ fs) [] vs s h k = refl
  fit_no_sets [] sets vs s h k = absurd (omega (arith, h))
  fit_no_sets (f ∷ fs) (g ∷ sets) vs s h k = absurd (omega (arith, k))

  pub fit_no_values : (fs : List F) (sets : List S) (vs : List V) (s : Scope) → 1 ≤ length fs → 1 ≤ length sets → length vs < 1 → fit fs sets vs s ≡ None
  unfolding fitting
  fit_no_values (f ∷ fs) (g ∷ sets) [] s h k l = refl
  fit_no_values [] sets vs s h k l = absurd (omega (arith, h))
  fit_no_values (f ∷ fs) [] vs s h k l = absurd (omega (arith, k))
  fit_no_values (f ∷ fs) (g ∷ sets) (v ∷ vs) s h k l = absurd (omega (arith, l))

  pub fit_next : (fs : List F) (sets : List S) (vs : List V) (s : Scope) (f : F) (g : S) (v : V) → 1 ≤ length fs → 1 ≤ length sets → 1 ≤ length vs → f ≡ get_or fs 0 f → g ≡ get_or sets 0 g → v ≡ get_or vs 0 v →
      fit fs sets vs s ≡ then_fits (fits_field (field_of (field f)) (set g) (value v) s) (fit (take (length fs - 1) (drop 1 fs)) (take (length sets - 1) (drop 1 sets)) (take (length vs - 1) (drop 1 vs)))
  unfolding fitting
  fit_next [] sets vs s f g v h k l ef eg ev = absurd (omega (arith, h))
  fit_next (x ∷ fs) [] vs s f g v h k l ef eg ev = absurd (omega (arith, k))
  fit_next (x ∷ fs) (y ∷ sets) [] s f g v h k l ef eg ev = absurd (omega (arith, l))
  fit_next (x ∷ fs) (y ∷ sets) (z ∷ vs) s f g v h k l ef eg ev =
      ap (λ x. then_fits (fits_field (field_of (field x)) (set y) (value z) s) (fit fs sets vs)) (sym ef)
      ∙ ap (λ y. then_fits (fits_field (field_of (field f)) (set y) (value z) s) (fit fs sets vs)) (sym eg)
      ∙ ap (λ z. then_fits (fits_field (field_of (field f)) (set g) (value z) s) (fit fs sets vs)) (sym ev)
      ∙ ap (λ fs. then_fits (fits_field (field_of (field f)) (set g) (value v) s) (fit fs sets vs)) (sym (rest_is (x ∷ fs)))
      ∙ ap (λ sets. then_fits (fits_field (field_of (field f)) (set g) (value v) s) (fit (take (length (x ∷ fs) - 1) fs) sets vs)) (sym (rest_is (y ∷ sets)))
      ∙ ap (λ vs. then_fits (fits_field (field_of (field f)) (set g) (value v) s) (fit (take (length (x ∷ fs) - 1) fs) (take (length (y ∷ sets) - 1) sets) vs)) (sym (rest_is (z ∷ vs)))

-- ---- events against fields whose first values are known

module _ {U F S V : Type 0} (first : U → FieldValue) (field : F → Syntax) (set : S → Values) (value : V → FieldValue) (s : Scope) where
  abbrev led : List U → List F → List S → List V → Fitting
  led us fs sets vs = led_fitting (map first us) (map field_of (map field fs)) (map set sets) (map value vs) s

  pub led_by_none : (us : List U) (fs : List F) (sets : List S) (vs : List V) → length us < 1 → led us fs sets vs ≡ fitting (map field_of (map field fs)) (map set sets) (map value vs) s
  unfolding led_fitting
  led_by_none [] fs sets vs h = refl
  led_by_none (u ∷ us) fs sets vs h = absurd (omega (arith, h))

  pub led_no_fields : (us : List U) (fs : List F) (sets : List S) (vs : List V) → 1 ≤ length us → length fs < 1 → led us fs sets vs ≡ None
  unfolding led_fitting
  led_no_fields (u ∷ us) [] sets vs h k = refl
  led_no_fields [] fs sets vs h k = absurd (omega (arith, h))
  led_no_fields (u ∷ us) (f ∷ fs) sets vs h k = absurd (omega (arith, k))

  pub led_no_sets : (us : List U) (fs : List F) (sets : List S) (vs : List V) → 1 ≤ length us → 1 ≤ length fs → length sets < 1 → led us fs sets vs ≡ None
  unfolding led_fitting
  led_no_sets (u ∷ us) (f ∷ fs) [] vs h k l = refl
  led_no_sets [] fs sets vs h k l = absurd (omega (arith, h))
  led_no_sets (u ∷ us) [] sets vs h k l = absurd (omega (arith, k))
  led_no_sets (u ∷ us) (f ∷ fs) (g ∷ sets) vs h k l = absurd (omega (arith, l))

  pub led_no_values : (us : List U) (fs : List F) (sets : List S) (vs : List V) → 1 ≤ length us → 1 ≤ length fs → 1 ≤ length sets → length vs < 1 → led us fs sets vs ≡ None
  unfolding led_fitting
  led_no_values (u ∷ us) (f ∷ fs) (g ∷ sets) [] h k l m = refl
  led_no_values [] fs sets vs h k l m = absurd (omega (arith, h))
  led_no_values (u ∷ us) [] sets vs h k l m = absurd (omega (arith, k))
  led_no_values (u ∷ us) (f ∷ fs) [] vs h k l m = absurd (omega (arith, l))
  led_no_values (u ∷ us) (f ∷ fs) (g ∷ sets) (v ∷ vs) h k l m = absurd (omega (arith, m))

  led_next : (us : List U) (fs : List F) (sets : List S) (vs : List V) (u : U) (v : V) (b : Bool) → 1 ≤ length us → 1 ≤ length fs → 1 ≤ length sets → 1 ≤ length vs → u ≡ get_or us 0 u → v ≡ get_or vs 0 v → is_same (first u) (value v) ≡ b → led us fs sets vs ≡ cond b (led (drop 1 us) (drop 1 fs) (drop 1 sets) (drop 1 vs)) not_fitting
  unfolding led_fitting
  led_next [] fs sets vs u v b h k l m eu ev e = absurd (omega (arith, h))
  led_next (x ∷ us) [] sets vs u v b h k l m eu ev e = absurd (omega (arith, k))
  led_next (x ∷ us) (f ∷ fs) [] vs u v b h k l m eu ev e = absurd (omega (arith, l))
  led_next (x ∷ us) (f ∷ fs) (g ∷ sets) [] u v b h k l m eu ev e = absurd (omega (arith, m))
  led_next (x ∷ us) (f ∷ fs) (g ∷ sets) (y ∷ vs) u v b h k l m eu ev e =
      ap (λ z. cond (is_same (first z) (value y)) (led us fs sets vs) not_fitting) (sym eu)
      ∙ ap (λ z. cond (is_same (first u) (value z)) (led us fs sets vs) not_fitting) (sym ev)
      ∙ ap (λ b. cond b (led us fs sets vs) not_fitting) e

  pub led_same : (us : List U) (fs : List F) (sets : List S) (vs : List V) (u : U) (v : V) → 1 ≤ length us → 1 ≤ length fs → 1 ≤ length sets → 1 ≤ length vs → u ≡ get_or us 0 u → v ≡ get_or vs 0 v → is_same (first u) (value v) ≡ true → led us fs sets vs ≡ led (take (length us - 1) (drop 1 us)) (take (length fs - 1) (drop 1 fs)) (take (length sets - 1) (drop 1 sets)) (take (length vs - 1) (drop 1 vs))
  led_same us fs sets vs u v h k l m eu ev e =
      led_next us fs sets vs u v true h k l m eu ev e
      ∙ ap (λ us. led us (drop 1 fs) (drop 1 sets) (drop 1 vs)) (sym (rest_is us))
      ∙ ap (λ fs. led (take (length us - 1) (drop 1 us)) fs (drop 1 sets) (drop 1 vs)) (sym (rest_is fs))
      ∙ ap (λ sets. led (take (length us - 1) (drop 1 us)) (take (length fs - 1) (drop 1 fs)) sets (drop 1 vs)) (sym (rest_is sets))
      ∙ ap (λ vs. led (take (length us - 1) (drop 1 us)) (take (length fs - 1) (drop 1 fs)) (take (length sets - 1) (drop 1 sets)) vs) (sym (rest_is vs))

  pub led_other : (us : List U) (fs : List F) (sets : List S) (vs : List V) (u : U) (v : V) → 1 ≤ length us → 1 ≤ length fs → 1 ≤ length sets → 1 ≤ length vs → u ≡ get_or us 0 u → v ≡ get_or vs 0 v → is_same (first u) (value v) ≡ false → led us fs sets vs ≡ not_fitting
  led_other us fs sets vs u v h k l m eu ev e = led_next us fs sets vs u v false h k l m eu ev e

-- ---- the first values

module _ {F S : Type 0} (field : F → Syntax) (set : S → Values) (known : Known) (front : Values) where
  abbrev with_leading : List F → List S → Option Values
  with_leading fs sets = Some (front ++ leading known (map field_of (map field fs)) (map set sets))

  pub leading_no_fields : (fs : List F) (sets : List S) → length fs < 1 → with_leading fs sets ≡ Some front
  unfolding leading
  leading_no_fields [] sets h = ap some_values (append-nil front)
  leading_no_fields (f ∷ fs) sets h = absurd (omega (arith, h))

  pub leading_no_sets : (fs : List F) (sets : List S) → 1 ≤ length fs → length sets < 1 → with_leading fs sets ≡ Some front
  unfolding leading
  leading_no_sets (f ∷ fs) [] h k = ap some_values (append-nil front)
  leading_no_sets [] sets h k = absurd (omega (arith, h))
  leading_no_sets (f ∷ fs) (g ∷ sets) h k = absurd (omega (arith, k))

  leading_next : (fs : List F) (sets : List S) (f : F) (g : S) (o : Option FieldValue) → 1 ≤ length fs → 1 ≤ length sets → f ≡ get_or fs 0 f → g ≡ get_or sets 0 g → value_within (field_value known (field_of (field f))) (set g) ≡ o → with_leading fs sets ≡ Some (front ++ before_more o (leading known (map field_of (map field (drop 1 fs))) (map set (drop 1 sets))))
  unfolding leading
  leading_next [] sets f g o h k ef eg e = absurd (omega (arith, h))
  leading_next (x ∷ fs) [] f g o h k ef eg e = absurd (omega (arith, k))
  leading_next (x ∷ fs) (y ∷ sets) f g o h k ef eg e =
      ap (λ z. some_values (front ++ before_more (value_within (field_value known (field_of (field z))) (set y)) (leading known (map field_of (map field fs)) (map set sets)))) (sym ef)
      ∙ ap (λ z. some_values (front ++ before_more (value_within (field_value known (field_of (field f))) (set z)) (leading known (map field_of (map field fs)) (map set sets)))) (sym eg)
      ∙ ap (λ o. some_values (front ++ before_more o (leading known (map field_of (map field fs)) (map set sets)))) e

  pub leading_ends : (fs : List F) (sets : List S) (f : F) (g : S) → 1 ≤ length fs → 1 ≤ length sets → f ≡ get_or fs 0 f → g ≡ get_or sets 0 g → Some (value_within (field_value known (field_of (field f))) (set g)) ≡ Some None → with_leading fs sets ≡ Some front
  unfolding before_more
  leading_ends fs sets f g h k ef eg e = leading_next fs sets f g None h k ef eg (some_is e) ∙ ap some_values (append-nil front)

  pub leading_goes_on : (fs : List F) (sets : List S) (f : F) (g : S) (v : FieldValue) → 1 ≤ length fs → 1 ≤ length sets → f ≡ get_or fs 0 f → g ≡ get_or sets 0 g → Some (value_within (field_value known (field_of (field f))) (set g)) ≡ Some (Some v) → with_leading fs sets ≡ Some ((front ++ v ∷ []) ++ leading known (map field_of (map field (take (length fs - 1) (drop 1 fs)))) (map set (take (length sets - 1) (drop 1 sets))))
  unfolding before_more
  leading_goes_on fs sets f g v h k ef eg e =
      leading_next fs sets f g (Some v) h k ef eg (some_is e)
      ∙ ap some_values (sym (append_assoc front (v ∷ []) (leading known (map field_of (map field (drop 1 fs))) (map set (drop 1 sets)))))
      ∙ ap (λ fs. some_values ((front ++ v ∷ []) ++ leading known (map field_of (map field fs)) (map set (drop 1 sets)))) (sym (rest_is fs))
      ∙ ap (λ sets. some_values ((front ++ v ∷ []) ++ leading known (map field_of (map field (take (length fs - 1) (drop 1 fs)))) (map set sets))) (sym (rest_is sets))

-- ---- names in fields

used_first : (x : Name) (f : FieldPhrase) (fs : List FieldPhrase) (set : Values) (sets : List Values) → is_within x f ≡ true → is_used x (f ∷ fs) (set ∷ sets) ≡ true
unfolding is_used
used_first x f fs [] sets h = h
used_first x f fs (v ∷ vs) sets h = ap (λ b. b || is_used x fs sets) h

module _ {F S : Type 0} (field : F → Syntax) (set : S → Values) (x : Name) where
  abbrev used : List F → List S → Bool
  used fs sets = is_used x (map field_of (map field fs)) (map set sets)

  pub used_no_fields : (fs : List F) (sets : List S) → length fs < 1 → false ≡ used fs sets
  unfolding is_used
  used_no_fields [] sets h = refl
  used_no_fields (f ∷ fs) sets h = absurd (omega (arith, h))

  pub used_no_sets : (fs : List F) (sets : List S) → 1 ≤ length fs → length sets < 1 → false ≡ used fs sets
  unfolding is_used
  used_no_sets (f ∷ fs) [] h k = refl
  used_no_sets [] sets h k = absurd (omega (arith, h))
  used_no_sets (f ∷ fs) (g ∷ sets) h k = absurd (omega (arith, k))

  pub used_here : (fs : List F) (sets : List S) (f : F) → 1 ≤ length fs → 1 ≤ length sets → f ≡ get_or fs 0 f → is_within x (field_of (field f)) ≡ true → true ≡ used fs sets
  used_here [] sets f h k ef e = absurd (omega (arith, h))
  used_here (y ∷ fs) [] f h k ef e = absurd (omega (arith, k))
  used_here (y ∷ fs) (g ∷ sets) f h k ef e = sym (used_first x (field_of (field y)) (map field_of (map field fs)) (set g) (map set sets) (ap (λ z. is_within x (field_of (field z))) (sym ef) ∙ e))

-- a name that isn't in the first field
used_beyond : (x : Name) (f : FieldPhrase) (fs : List FieldPhrase) (vs : Values) (sets : List Values) (b : Bool) → is_within x f ≡ false → nat_eq (length vs) 0 ≡ b → is_used x (f ∷ fs) (vs ∷ sets) ≡ cond b false (is_used x fs sets)
unfolding is_used
used_beyond x f fs [] sets true m h = m
used_beyond x f fs [] sets false m h = absurd cc
used_beyond x f fs (v ∷ vs) sets true m h = absurd (omega (arith, eqb-true (length (v ∷ vs)) 0 h))
used_beyond x f fs (v ∷ vs) sets false m h = ap (λ b. b || is_used x fs sets) m

module _ {F S : Type 0} (field : F → Syntax) (set : S → Values) (x : Name) where
  pub used_next : (fs : List F) (sets : List S) (f : F) (g : S) (b : Bool) → 1 ≤ length fs → 1 ≤ length sets → f ≡ get_or fs 0 f → g ≡ get_or sets 0 g → is_within x (field_of (field f)) ≡ false → nat_eq (length (set g)) 0 ≡ b →
      is_used x (map field_of (map field fs)) (map set sets) ≡ cond b false (is_used x (map field_of (map field (take (length fs - 1) (drop 1 fs)))) (map set (take (length sets - 1) (drop 1 sets))))
  used_next fs sets f g b h k ef eg m e =
      ap₂ (λ fs sets. is_used x (map field_of (map field fs)) (map set sets)) (first_item fs f h ef) (first_item sets g k eg)
      ∙ used_beyond x (field_of (field f)) (map field_of (map field (drop 1 fs))) (set g) (map set (drop 1 sets)) b m e
      ∙ ap₂ (λ fs sets. cond b false (is_used x (map field_of (map field fs)) (map set sets))) (sym (rest_is fs)) (sym (rest_is sets))

-- ---- channels with events

event_beyond : (vs : Values) (sets : List Values) (b : Bool) → nat_eq (length vs) 0 ≡ b → has_event (vs ∷ sets) ≡ cond b false (has_event sets)
unfolding has_event
event_beyond [] sets true h = refl
event_beyond [] sets false h = absurd cc
event_beyond (v ∷ vs) sets true h = absurd (omega (arith, eqb-true (length (v ∷ vs)) 0 h))
event_beyond (v ∷ vs) sets false h = refl

module _ {S : Type 0} (set : S → Values) where
  pub event_next : (sets : List S) (g : S) (b : Bool) → 1 ≤ length sets → g ≡ get_or sets 0 g → nat_eq (length (set g)) 0 ≡ b → has_event (map set sets) ≡ cond b false (has_event (map set (take (length sets - 1) (drop 1 sets))))
  event_next sets g b k eg e =
      ap (λ sets. has_event (map set sets)) (first_item sets g k eg)
      ∙ event_beyond (set g) (map set (drop 1 sets)) b e
      ∙ ap (λ sets. cond b false (has_event (map set sets))) (sym (rest_is sets))
