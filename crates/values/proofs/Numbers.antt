-- Numbers past 64 bits are past the limits too, and ranges are made number by number.
use Rattle.std.proofs.Common.{◌≡◌, ℕ, zero, suc, ◌≤◌, ℤ, pos, negsuc, ◌+ℤ◌, ◌-ℤ◌, ◌≤ℤ◌, ◌<ℤ◌, List, [], ◌∷◌, map, Some, None, Bool, true, false, cond, ◌&&◌, refl, sym, ap, ap₂, ◌∙◌, arith}
use Rattle.std.proofs.lemmas.Int.{ints}
use Rattle.std.proofs.lemmas.Bool.{leb-true}
use Rattle.std.proofs.Math.Dec.{leb}
use Rattle.std.proofs.lemmas.Cmp.{int_ranked}
use Rattle.std.specs.Prelude.{int_le, int_lt, FitsSigned}
use Rattle.std.specs.Int.{w64, int_gap}
use Rattle.std.specs.Int.Signed.{lt_z}
use Rattle.std.specs.Ordering.{int_cmp, on, match_ordering}
use Rattle.std.specs.BTreeSet.{insert_key}
use Rattle.std.specs.declared.cmp.Ordering.{Ordering}
use Rattle.std.specs.declared.cmp.Ordering.TheVariants.{Less, Equal, Greater}
use Rattle.alphabet.specs.Channels.{number, Values}
use Rattle.values.specs.declared.value.Value.{Value}
use Rattle.values.specs.declared.value.Value.TheVariants.{Number}
use Rattle.values.specs.Values.{limited, numbers_from, range, value_cmp}
use Rattle.values.specs.View.{value}
use Rattle.values.proofs.ValueSets.{insert_view}

and_left : (b : Bool) → (b && true) ≡ true → b ≡ true
and_left true e = refl
and_left false e = absurd cc

fits : (z : ℤ) → (int_le (negsuc 999999) z && int_le z (pos 1000000)) ≡ true → FitsSigned w64 z
fits (pos n) e = let h : n ≤ 1000000 = leb-true n 1000000 e in record { sfits = omega arith }
fits (negsuc n) e = let h : n ≤ 999999 = leb-true n 999999 (and_left (leb n 999999) e) in record { sfits = omega arith }

refused : (z : ℤ) (b : Bool) → (b ≡ true → ⊥) → cond b (Some z) None ≡ None
refused z true n = absurd (n refl)
refused z false n = refl

pub beyond : (z : ℤ) → (FitsSigned w64 z → ⊥) → limited z ≡ None
unfolding limited
beyond z n = refused z (int_le (negsuc 999999) z && int_le z (pos 1000000)) (λ e. n (fits z e))

-- ---- ranges

above : (x : ℤ) (n : ℕ) → int_cmp (x +ℤ pos (suc n)) x ≡ Greater
above x n = by (int_cmp (x +ℤ pos (suc n)) x) refl
  where
    by : (o : Ordering) → int_cmp (x +ℤ pos (suc n)) x ≡ o → o ≡ Greater
    by Less h = absurd (let l : (x +ℤ pos (suc n)) <ℤ x = int_ranked (x +ℤ pos (suc n)) x Less (sym h) in omega (arith, ints))
    by Equal h = absurd (let l : x +ℤ pos (suc n) ≡ x = int_ranked (x +ℤ pos (suc n)) x Equal (sym h) in omega (arith, ints))
    by Greater h = refl

next_is : (x : ℤ) (n : ℕ) → x +ℤ pos (suc n) ≡ (x +ℤ pos 1) +ℤ pos n
next_is x n = omega (arith, ints)

same_start : (x : ℤ) → x +ℤ pos 0 ≡ x
same_start x = omega (arith, ints)

-- the number after so many from x on
push : (n : ℕ) (x : ℤ) → insert_key value_cmp (numbers_from x n) (number (x +ℤ pos n)) ≡ numbers_from x (suc n)
unfolding numbers_from
push zero x = ap (λ y. number y ∷ []) (same_start x)
push (suc n) x =
    ap (λ o. match_ordering o (number (x +ℤ pos (suc n)) ∷ number x ∷ numbers_from (x +ℤ pos 1) n) (number x ∷ numbers_from (x +ℤ pos 1) n) (number x ∷ insert_key value_cmp (numbers_from (x +ℤ pos 1) n) (number (x +ℤ pos (suc n))))) (above x n)
    ∙ ap (λ vs. number x ∷ vs) (ap (λ y. insert_key value_cmp (numbers_from (x +ℤ pos 1) n) (number y)) (next_is x n) ∙ push n (x +ℤ pos 1))

gap_is : (x z : ℤ) → x ≤ℤ z → x +ℤ pos (int_gap x z) ≡ z
gap_is (pos a) (pos b) h = omega (arith, ints)
gap_is (pos a) (negsuc b) h = absurd (omega (arith, ints))
gap_is (negsuc a) (pos b) h = omega (arith, ints)
gap_is (negsuc a) (negsuc b) h = omega (arith, ints)

gap_by : (x z : ℤ) (n : ℕ) → x +ℤ pos n ≡ z → int_gap x z ≡ n
gap_by (pos a) (pos b) n e = omega (arith, ints)
gap_by (pos a) (negsuc b) n e = absurd (omega (arith, ints))
gap_by (negsuc a) (pos b) n e = omega (arith, ints)
gap_by (negsuc a) (negsuc b) n e = omega (arith, ints)

pub gap_more : (x z : ℤ) → x ≤ℤ z → int_gap x (z +ℤ pos 1) ≡ suc (int_gap x z)
gap_more x z h = gap_by x (z +ℤ pos 1) (suc (int_gap x z)) (let e = gap_is x z h in omega (arith, ints))

gap_none : (x : ℤ) → int_gap x x ≡ 0
gap_none x = gap_by x x 0 (same_start x)

-- no numbers yet
pub numbers_none : {A : Type 0} (x : ℤ) (ks : List (Value A)) → ks ≡ [] → map value ks ≡ numbers_from x (int_gap x x)
unfolding numbers_from
numbers_none x ks h = ap (map value) h ∙ ap (numbers_from x) (sym (gap_none x))

-- one number more
pub numbers_more : {A : Type 0} (x z : ℤ) (ks ls : List (Value A)) → x ≤ℤ z → map value ks ≡ numbers_from x (int_gap x z) → ls ≡ insert_key (on value value_cmp) ks (Number z) → map value ls ≡ numbers_from x (suc (int_gap x z))
numbers_more x z ks ls h inv is =
    ap (map value) is ∙ insert_view ks (Number z) ∙ ap₂ (λ vs y. insert_key value_cmp vs (number y)) inv (sym (gap_is x z h)) ∙ push (int_gap x z) x

pub between_fits : (s t l : ℤ) → s ≤ℤ t → t ≤ℤ l → FitsSigned w64 s → FitsSigned w64 l → FitsSigned w64 t
between_fits s (pos b) (pos c) h k f g = let m = g.sfits in let n : b ≤ c = omega (arith, ints) in record { sfits = omega arith }
between_fits s (pos b) (negsuc c) h k f g = absurd (omega (arith, ints))
between_fits (pos a) (negsuc b) l h k f g = absurd (omega (arith, ints))
between_fits (negsuc a) (negsuc b) l h k f g = let m = f.sfits in let n : b ≤ a = omega (arith, ints) in record { sfits = omega arith }

pub next_low : (t l : ℤ) → t <ℤ l → (t +ℤ pos 1) ≤ℤ l
next_low t l h = omega (arith, ints)

pub same_low : (t : ℤ) → t ≤ℤ t
same_low t = omega (arith, ints)

pub up_low : (s t : ℤ) → s ≤ℤ t → s ≤ℤ (t +ℤ pos 1)
up_low s t h = omega (arith, ints)

pub at_end : (t l : ℤ) → t ≤ℤ l → l ≤ℤ t → t ≡ l
at_end t l h k = omega (arith, ints)

-- what tests tell
pub under : (a b : ℤ) → lt_z a b ≡ true → a <ℤ b
under a b e = grind (arith, ints)

pub not_under : (a b : ℤ) → lt_z a b ≡ false → b ≤ℤ a
not_under a b e = grind (arith, ints)

-- ---- ranges by their size

pub range_none : (x y : ℤ) → y <ℤ x → range x y ≡ Some []
unfolding range
range_none x y h = let e : int_lt y x ≡ true = grind (arith, ints) in rw e refl

range_wide : (x y : ℤ) → x ≤ℤ y → pos 65535 <ℤ (y -ℤ x) → range x y ≡ None
unfolding range
range_wide x y h w =
    let e : int_lt y x ≡ false = grind (arith, ints) in
    let f : int_le y (x +ℤ pos 65535) ≡ false = grind (arith, ints) in
    rw (e, f) refl

too_wide : (x y : ℤ) (b : Bool) → x ≤ℤ y → (FitsSigned w64 (y -ℤ x) → ⊥) → int_le y (x +ℤ pos 65535) ≡ b → b ≡ false
too_wide x y false h n e = refl
too_wide x y true h n e =
    let l : y ≤ℤ (x +ℤ pos 65535) = grind (arith, ints) in
    let low : pos 0 ≤ℤ (y -ℤ x) = omega (arith, ints) in
    let high : (y -ℤ x) ≤ℤ pos 65535 = omega (arith, ints) in
    absurd (n (between_fits (pos 0) (y -ℤ x) (pos 65535) low high (record { sfits = omega arith }) (record { sfits = omega arith })))

range_beyond : (x y : ℤ) → x ≤ℤ y → (FitsSigned w64 (y -ℤ x) → ⊥) → range x y ≡ None
unfolding range
range_beyond x y h n =
    let e : int_lt y x ≡ false = grind (arith, ints) in
    let f : int_le y (x +ℤ pos 65535) ≡ false = too_wide x y (int_le y (x +ℤ pos 65535)) h n refl in
    rw (e, f) refl

range_made : (x y : ℤ) (vs : Values) → x ≤ℤ y → (y -ℤ x) ≤ℤ pos 65535 → vs ≡ numbers_from x (suc (int_gap x y)) → range x y ≡ Some vs
unfolding range
range_made x y vs h w is =
    let e : int_lt y x ≡ false = grind (arith, ints) in
    let f : int_le y (x +ℤ pos 65535) ≡ true = grind (arith, ints) in
    rw (e, f, is) refl

-- ---- the loop over a range

pub numbers_step : {A : Type 0} (x z l u : ℤ) (ks ls : List (Value A)) → (x ≤ℤ z) × (z ≤ℤ l) × (map value ks ≡ numbers_from x (int_gap x z)) → z <ℤ l → u ≡ z +ℤ pos 1 → ls ≡ insert_key (on value value_cmp) ks (Number z)
    → (x ≤ℤ u) × (u ≤ℤ l) × (map value ls ≡ numbers_from x (int_gap x u))
numbers_step x z l u ks ls inv h is put =
    let low = inv.0 in
    let e : int_gap x u ≡ suc (int_gap x z) = ap (int_gap x) is ∙ gap_more x z low in
    (omega (arith, ints, low, is), omega (arith, ints, h, is), numbers_more x z ks ls low inv.2 put ∙ ap (numbers_from x) (sym e))

pub numbers_finish : {A : Type 0} (x z l y m : ℤ) (ks ls : List (Value A)) → (x ≤ℤ z) × (z ≤ℤ l) × (map value ks ≡ numbers_from x (int_gap x z)) → l ≤ℤ z → x ≡ y → l ≡ m → ls ≡ insert_key (on value value_cmp) ks (Number l) → map value ls ≡ numbers_from y (suc (int_gap y m))
numbers_finish x z l y m ks ls inv h e f put =
    let same : z ≡ l = at_end z l inv.1 h in
    numbers_more x z ks ls inv.0 inv.2 (put ∙ ap (λ (v : ℤ). insert_key (on value value_cmp) ks (Number v)) (sym same)) ∙ ap₂ (λ (a b : ℤ). numbers_from a (suc (int_gap a b))) e (same ∙ f)

pub range_here : (x y d v w : ℤ) (vs : Values) → lt_z y x ≡ false → d ≡ y -ℤ x → lt_z (pos 65535) d ≡ false → vs ≡ numbers_from x (suc (int_gap x y)) → x ≡ v → y ≡ w → range v w ≡ Some vs
range_here x y d v w vs h is low made e f =
    let a : x ≤ℤ y = not_under y x h in
    let b : d ≤ℤ pos 65535 = not_under (pos 65535) d low in
    let k : (y -ℤ x) ≤ℤ pos 65535 = omega (arith, ints, b, is) in
    ap₂ (λ (s t : ℤ). range s t) (sym e) (sym f) ∙ range_made x y vs a k made

pub wide_here : (x y d v w : ℤ) → lt_z y x ≡ false → d ≡ y -ℤ x → lt_z (pos 65535) d ≡ true → x ≡ v → y ≡ w → range v w ≡ None
wide_here x y d v w h is high e f =
    let b : pos 65535 <ℤ d = under (pos 65535) d high in
    let k : pos 65535 <ℤ (y -ℤ x) = omega (arith, ints, b, is) in
    ap₂ (λ (s t : ℤ). range s t) (sym e) (sym f) ∙ range_wide x y (not_under y x h) k

pub beyond_here : (x y v w : ℤ) → lt_z y x ≡ false → (FitsSigned w64 (y -ℤ x) → ⊥) → x ≡ v → y ≡ w → range v w ≡ None
beyond_here x y v w h n e f = ap₂ (λ (s t : ℤ). range s t) (sym e) (sym f) ∙ range_beyond x y (not_under y x h) n
