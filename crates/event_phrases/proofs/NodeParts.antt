-- The parts of a node, as slices give them.
use Rattle.std.proofs.Common.{◌≡◌, ◌≢◌, ◌-◌, ◌<◌, ◌≤◌, List, [], ◌∷◌, length, map, take, drop, get_or, Option, Some, None, refl, ap, ap₂, arith}
use Rattle.syntax.specs.Grammar.{Syntax}
use Rattle.event_phrases.specs.Forms.{if_none, first_of, one_of}
use Rattle.event_phrases.proofs.Scopes.{rest_is}

module _ {A : Type 0} (part : A → Syntax) where
  abbrev one_part : A → Option Syntax
  one_part t = Some (part t)

  abbrev first_part : A → List A → Option (Syntax × List Syntax)
  first_part t ts = Some (part t, map part ts)

  pub has_none : (ts : List A) → length ts < 1 → None ≡ first_of (map part ts)
  unfolding first_of
  has_none [] h = refl
  has_none (x ∷ ts) h = absurd (omega (arith, h))

  pub has_first : (ts : List A) (t : A) → 1 ≤ length ts → t ≡ get_or ts 0 t → first_part t (take (length ts - 1) (drop 1 ts)) ≡ first_of (map part ts)
  unfolding first_of
  has_first [] t h e = absurd (omega (arith, h))
  has_first (x ∷ ts) t h e = ap₂ first_part e (rest_is (x ∷ ts))

  pub has_one : (ts : List A) (t : A) → length ts < 2 → 1 ≤ length ts → t ≡ get_or ts 0 t → one_part t ≡ one_of (map part ts)
  unfolding one_of if_none
  has_one [] t h k e = absurd (omega (arith, k))
  has_one (x ∷ []) t h k e = ap one_part e
  has_one (x ∷ y ∷ ts) t h k e = absurd (omega (arith, h))

  pub not_one : (ts : List A) → (length ts ≢ 1) → None ≡ one_of (map part ts)
  unfolding one_of if_none
  not_one [] n = refl
  not_one (x ∷ []) n = absurd (n refl)
  not_one (x ∷ y ∷ ts) n = refl
