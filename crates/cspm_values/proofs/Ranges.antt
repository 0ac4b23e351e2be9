-- Ranges are made number by number.
use Rattle.std.proofs.Common.{◌≡◌, ℕ, zero, suc, ◌≤◌, ◌<◌, ℤ, pos, negsuc, ◌+ℤ◌, ◌-ℤ◌, ◌≤ℤ◌, ◌<ℤ◌, List, [], ◌∷◌, ◌++◌, Bool, true, false, refl, sym, ap, ap₂, ◌∙◌, arith}
use Rattle.std.proofs.lemmas.Int.{ints}
use Rattle.std.proofs.lemmas.List.{map-append}
use Rattle.std.specs.Prelude.{int_le, int_lt, FitsSigned}
use Rattle.std.specs.Int.{w64, int_gap}
use Rattle.std.specs.Int.Signed.{lt_z}
use Rattle.cspm_values.specs.declared.stop.Limit.TheVariants as limits
use Rattle.cspm_values.specs.declared.value.Value.{Value}
use Rattle.cspm_values.specs.Values as plain
use Rattle.cspm_values.specs.Answers.{gives, beyond}
use Rattle.cspm_values.specs.Parts.{number_value}
use Rattle.cspm_values.specs.Numbers.{numbers_from, range}
use Rattle.cspm_values.specs.View.{value, values}

next_is : (x : ℤ) (n : ℕ) → x +ℤ pos (suc n) ≡ (x +ℤ pos 1) +ℤ pos n
next_is x n = omega (arith, ints)

same_start : (x : ℤ) → x +ℤ pos 0 ≡ x
same_start x = omega (arith, ints)

-- the number after so many from x on
push : (n : ℕ) (x : ℤ) → numbers_from x n ++ number_value (x +ℤ pos n) ∷ [] ≡ numbers_from x (suc n)
unfolding numbers_from
push zero x = ap (λ y. number_value y ∷ []) (same_start x)
push (suc n) x =
    ap (λ vs. number_value x ∷ vs) (ap (λ y. numbers_from (x +ℤ pos 1) n ++ number_value y ∷ []) (next_is x n) ∙ push n (x +ℤ pos 1))

gap_is : (x z : ℤ) → x ≤ℤ z → x +ℤ pos (int_gap x z) ≡ z
gap_is (pos a) (pos b) h = omega (arith, ints)
gap_is (pos a) (negsuc b) h = absurd (omega (arith, ints))
gap_is (negsuc a) (pos b) h = omega (arith, ints)
gap_is (negsuc a) (negsuc b) h = omega (arith, ints)

gap_by : (x z : ℤ) (n : ℕ) → x +ℤ pos n ≡ z → int_gap x z ≡ n
gap_by (pos a) (pos b) n e = omega (arith, ints)
gap_by (pos a) (negsuc b) n e = absurd (omega (arith, ints))
gap_by (negsuc a) (pos b) n e = omega (arith, ints)
gap_by (negsuc a) (negsuc b) n e = omega (arith, ints)

pub gap_more : (x z : ℤ) → x ≤ℤ z → int_gap x (z +ℤ pos 1) ≡ suc (int_gap x z)
gap_more x z h = gap_by x (z +ℤ pos 1) (suc (int_gap x z)) (let e = gap_is x z h in omega (arith, ints))

gap_none : (x : ℤ) → int_gap x x ≡ 0
gap_none x = gap_by x x 0 (same_start x)

-- no numbers yet
pub numbers_none : {A : Type 0} (x : ℤ) (ks : List (Value A)) → ks ≡ [] → values ks ≡ numbers_from x (int_gap x x)
unfolding numbers_from
numbers_none x ks h = ap values h ∙ ap (numbers_from x) (sym (gap_none x))

-- one number more
pub numbers_more : {A : Type 0} (x z : ℤ) (v : Value A) (ks ls : List (Value A)) → x ≤ℤ z → values ks ≡ numbers_from x (int_gap x z) → value v ≡ number_value z → ls ≡ ks ++ v ∷ [] → values ls ≡ numbers_from x (suc (int_gap x z))
numbers_more x z v ks ls h inv made is =
    ap values is ∙ map-append value ks (v ∷ []) ∙ ap₂ (λ us u. us ++ u ∷ []) inv (made ∙ ap number_value (sym (gap_is x z h))) ∙ push (int_gap x z) x

pub between_fits : (s t l : ℤ) → s ≤ℤ t → t ≤ℤ l → FitsSigned w64 s → FitsSigned w64 l → FitsSigned w64 t
between_fits s (pos b) (pos c) h k f g = let m = g.sfits in let n : b ≤ c = omega (arith, ints) in record { sfits = omega arith }
between_fits s (pos b) (negsuc c) h k f g = absurd (omega (arith, ints))
between_fits (pos a) (negsuc b) l h k f g = absurd (omega (arith, ints))
between_fits (negsuc a) (negsuc b) l h k f g = let m = f.sfits in let n : b ≤ a = omega (arith, ints) in record { sfits = omega arith }

pub next_low : (t l : ℤ) → t <ℤ l → (t +ℤ pos 1) ≤ℤ l
next_low t l h = omega (arith, ints)

pub same_low : (t : ℤ) → t ≤ℤ t
same_low t = omega (arith, ints)

pub up_low : (s t : ℤ) → s ≤ℤ t → s ≤ℤ (t +ℤ pos 1)
up_low s t h = omega (arith, ints)

pub at_end : (t l : ℤ) → t ≤ℤ l → l ≤ℤ t → t ≡ l
at_end t l h k = omega (arith, ints)

-- what tests tell
pub under : (a b : ℤ) → lt_z a b ≡ true → a <ℤ b
under a b e = grind (arith, ints)

pub not_under : (a b : ℤ) → lt_z a b ≡ false → b ≤ℤ a
not_under a b e = grind (arith, ints)

-- ---- ranges by their size

pub range_none : (x y : ℤ) → y <ℤ x → range x y ≡ gives []
unfolding range
range_none x y h = let e : int_lt y x ≡ true = grind (arith, ints) in rw e refl

range_wide : (x y : ℤ) → x ≤ℤ y → pos 65535 <ℤ (y -ℤ x) → range x y ≡ beyond limits.Members
unfolding range
range_wide x y h w =
    let e : int_lt y x ≡ false = grind (arith, ints) in
    let f : int_le y (x +ℤ pos 65535) ≡ false = grind (arith, ints) in
    rw (e, f) refl

too_wide : (x y : ℤ) (b : Bool) → x ≤ℤ y → (FitsSigned w64 (y -ℤ x) → ⊥) → int_le y (x +ℤ pos 65535) ≡ b → b ≡ false
too_wide x y false h n e = refl
too_wide x y true h n e =
    let l : y ≤ℤ (x +ℤ pos 65535) = grind (arith, ints) in
    let low : pos 0 ≤ℤ (y -ℤ x) = omega (arith, ints) in
    let high : (y -ℤ x) ≤ℤ pos 65535 = omega (arith, ints) in
    absurd (n (between_fits (pos 0) (y -ℤ x) (pos 65535) low high (record { sfits = omega arith }) (record { sfits = omega arith })))

range_beyond : (x y : ℤ) → x ≤ℤ y → (FitsSigned w64 (y -ℤ x) → ⊥) → range x y ≡ beyond limits.Members
unfolding range
range_beyond x y h n =
    let e : int_lt y x ≡ false = grind (arith, ints) in
    let f : int_le y (x +ℤ pos 65535) ≡ false = too_wide x y (int_le y (x +ℤ pos 65535)) h n refl in
    rw (e, f) refl

range_made : (x y : ℤ) (vs : List plain.Value) → x ≤ℤ y → (y -ℤ x) ≤ℤ pos 65535 → vs ≡ numbers_from x (suc (int_gap x y)) → range x y ≡ gives vs
unfolding range
range_made x y vs h w is =
    let e : int_lt y x ≡ false = grind (arith, ints) in
    let f : int_le y (x +ℤ pos 65535) ≡ true = grind (arith, ints) in
    rw (e, f, is) refl

-- ---- the loop over a range

pub numbers_step : {A : Type 0} (x z l u : ℤ) (v : Value A) (ks ls : List (Value A)) → (x ≤ℤ z) × (z ≤ℤ l) × (values ks ≡ numbers_from x (int_gap x z)) → z <ℤ l → u ≡ z +ℤ pos 1 → value v ≡ number_value z → ls ≡ ks ++ v ∷ []
    → (x ≤ℤ u) × (u ≤ℤ l) × (values ls ≡ numbers_from x (int_gap x u))
numbers_step x z l u v ks ls inv h is made put =
    let low = inv.0 in
    let e : int_gap x u ≡ suc (int_gap x z) = ap (int_gap x) is ∙ gap_more x z low in
    (omega (arith, ints, low, is), omega (arith, ints, h, is), numbers_more x z v ks ls low inv.2 made put ∙ ap (numbers_from x) (sym e))

pub numbers_finish : {A : Type 0} (x z l y m : ℤ) (v : Value A) (ks ls : List (Value A)) → (x ≤ℤ z) × (z ≤ℤ l) × (values ks ≡ numbers_from x (int_gap x z)) → l ≤ℤ z → x ≡ y → l ≡ m → value v ≡ number_value l → ls ≡ ks ++ v ∷ [] → values ls ≡ numbers_from y (suc (int_gap y m))
numbers_finish x z l y m v ks ls inv h e f made put =
    let same : z ≡ l = at_end z l inv.1 h in
    numbers_more x z v ks ls inv.0 inv.2 (made ∙ ap number_value (sym same)) put ∙ ap₂ (λ (a b : ℤ). numbers_from a (suc (int_gap a b))) e (same ∙ f)

pub range_here : (x y d v w : ℤ) (vs : List plain.Value) → lt_z y x ≡ false → d ≡ y -ℤ x → lt_z (pos 65535) d ≡ false → vs ≡ numbers_from x (suc (int_gap x y)) → x ≡ v → y ≡ w → range v w ≡ gives vs
range_here x y d v w vs h is low made e f =
    let a : x ≤ℤ y = not_under y x h in
    let b : d ≤ℤ pos 65535 = not_under (pos 65535) d low in
    let k : (y -ℤ x) ≤ℤ pos 65535 = omega (arith, ints, b, is) in
    ap₂ (λ (s t : ℤ). range s t) (sym e) (sym f) ∙ range_made x y vs a k made

pub wide_here : (x y d v w : ℤ) → lt_z y x ≡ false → d ≡ y -ℤ x → lt_z (pos 65535) d ≡ true → x ≡ v → y ≡ w → range v w ≡ beyond limits.Members
wide_here x y d v w h is high e f =
    let b : pos 65535 <ℤ d = under (pos 65535) d high in
    let k : pos 65535 <ℤ (y -ℤ x) = omega (arith, ints, b, is) in
    ap₂ (λ (s t : ℤ). range s t) (sym e) (sym f) ∙ range_wide x y (not_under y x h) k

pub beyond_here : (x y v w : ℤ) → lt_z y x ≡ false → (FitsSigned w64 (y -ℤ x) → ⊥) → x ≡ v → y ≡ w → range v w ≡ beyond limits.Members
beyond_here x y v w h n e f = ap₂ (λ (s t : ℤ). range s t) (sym e) (sym f) ∙ range_beyond x y (not_under y x h) n

pub gap_less : (x z u : ℤ) → x <ℤ z → u ≡ x +ℤ pos 1 → int_gap u z < int_gap x z
gap_less x z u h is =
    let a : x ≤ℤ z = omega (arith, ints) in
    let b : u ≤ℤ z = omega (arith, ints) in
    let e : x +ℤ pos (int_gap x z) ≡ z = gap_is x z a in
    let f : u +ℤ pos (int_gap u z) ≡ z = gap_is u z b in
    omega (arith, ints)
