-- Rows of values against each other, one value after the other, as slices give them.
use Rattle.std.proofs.Common.{◌≡◌, ◌-◌, ◌<◌, ◌≤◌, List, [], ◌∷◌, length, map, take, drop, get_or, Bool, true, false, ◌&&◌, refl, sym, ap, ◌∙◌, arith}
use Rattle.std.specs.Cmp.Lexicographic.{pointwise}
use Rattle.alphabet.specs.Channels.{FieldValue}
use Rattle.values.specs.Values.{is_same}
use Rattle.event_phrases.specs.Events.{begins}
use Rattle.event_phrases.proofs.Scopes.{rest_is}

module _ {U V : Type 0} (first : U → FieldValue) (value : V → FieldValue) where
  abbrev start : List U → List V → Bool
  start us vs = begins (map first us) (map value vs)

  abbrev same : List U → List V → Bool
  same us vs = pointwise is_same (map first us) (map value vs)

  pub starts_none : (us : List U) (vs : List V) → length us < 1 → true ≡ start us vs
  unfolding begins
  starts_none [] vs h = refl
  starts_none (u ∷ us) vs h = absurd (omega (arith, h))

  pub starts_not : (us : List U) (vs : List V) → 1 ≤ length us → length vs < 1 → false ≡ start us vs
  unfolding begins
  starts_not (u ∷ us) [] h k = refl
  starts_not [] vs h k = absurd (omega (arith, h))
  starts_not (u ∷ us) (v ∷ vs) h k = absurd (omega (arith, k))

  starts_next : (us : List U) (vs : List V) (u : U) (v : V) (b : Bool) → 1 ≤ length us → 1 ≤ length vs → u ≡ get_or us 0 u → v ≡ get_or vs 0 v → is_same (first u) (value v) ≡ b → start us vs ≡ b && start (drop 1 us) (drop 1 vs)
  unfolding begins
  starts_next [] vs u v b h k eu ev e = absurd (omega (arith, h))
  starts_next (x ∷ us) [] u v b h k eu ev e = absurd (omega (arith, k))
  starts_next (x ∷ us) (y ∷ vs) u v b h k eu ev e =
      ap (λ z. is_same (first z) (value y) && start us vs) (sym eu) ∙ ap (λ z. is_same (first u) (value z) && start us vs) (sym ev)
      ∙ ap (λ b. b && start us vs) e

  pub starts_same : (us : List U) (vs : List V) (u : U) (v : V) → 1 ≤ length us → 1 ≤ length vs → u ≡ get_or us 0 u → v ≡ get_or vs 0 v → is_same (first u) (value v) ≡ true → start (take (length us - 1) (drop 1 us)) (take (length vs - 1) (drop 1 vs)) ≡ start us vs
  starts_same us vs u v h k eu ev e =
      ap (λ us. start us (take (length vs - 1) (drop 1 vs))) (rest_is us) ∙ ap (λ vs. start (drop 1 us) vs) (rest_is vs)
      ∙ sym (starts_next us vs u v true h k eu ev e)

  pub starts_other : (us : List U) (vs : List V) (u : U) (v : V) → 1 ≤ length us → 1 ≤ length vs → u ≡ get_or us 0 u → v ≡ get_or vs 0 v → is_same (first u) (value v) ≡ false → false ≡ start us vs
  starts_other us vs u v h k eu ev e = sym (starts_next us vs u v false h k eu ev e)

  pub same_not : (us : List U) (vs : List V) → 1 ≤ length us → length vs < 1 → false ≡ same us vs
  same_not (u ∷ us) [] h k = refl
  same_not [] vs h k = absurd (omega (arith, h))
  same_not (u ∷ us) (v ∷ vs) h k = absurd (omega (arith, k))

  same_next : (us : List U) (vs : List V) (u : U) (v : V) (b : Bool) → 1 ≤ length us → 1 ≤ length vs → u ≡ get_or us 0 u → v ≡ get_or vs 0 v → is_same (first u) (value v) ≡ b → same us vs ≡ b && same (drop 1 us) (drop 1 vs)
  same_next [] vs u v b h k eu ev e = absurd (omega (arith, h))
  same_next (x ∷ us) [] u v b h k eu ev e = absurd (omega (arith, k))
  same_next (x ∷ us) (y ∷ vs) u v b h k eu ev e =
      ap (λ z. is_same (first z) (value y) && same us vs) (sym eu) ∙ ap (λ z. is_same (first u) (value z) && same us vs) (sym ev)
      ∙ ap (λ b. b && same us vs) e

  pub same_first : (us : List U) (vs : List V) (u : U) (v : V) → 1 ≤ length us → 1 ≤ length vs → u ≡ get_or us 0 u → v ≡ get_or vs 0 v → is_same (first u) (value v) ≡ true → same (take (length us - 1) (drop 1 us)) (take (length vs - 1) (drop 1 vs)) ≡ same us vs
  same_first us vs u v h k eu ev e =
      ap (λ us. same us (take (length vs - 1) (drop 1 vs))) (rest_is us) ∙ ap (λ vs. same (drop 1 us) vs) (rest_is vs)
      ∙ sym (same_next us vs u v true h k eu ev e)

  pub same_other : (us : List U) (vs : List V) (u : U) (v : V) → 1 ≤ length us → 1 ≤ length vs → u ≡ get_or us 0 u → v ≡ get_or vs 0 v → is_same (first u) (value v) ≡ false → false ≡ same us vs
  same_other us vs u v h k eu ev e = sym (same_next us vs u v false h k eu ev e)
