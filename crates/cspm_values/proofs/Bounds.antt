-- Numbers past 64 bits are past the limits too; division by the divisor's sign.
use Rattle.std.proofs.Common.{◌≡◌, ◌≤◌, zero, suc, ℤ, pos, negsuc, ◌≤ℤ◌, ◌<ℤ◌, ◌-ℤ◌, Bool, true, false, cond, ◌&&◌, refl, sym, subst, ap, ap₂, ◌∙◌, arith, to_z, of_z}
use Rattle.std.proofs.lemmas.Int.{ints, to_z-of_z}
use Rattle.std.proofs.lemmas.Bool.{leb-true}
use Rattle.std.proofs.Math.Dec.{leb}
use Rattle.std.specs.Prelude.{int_le, FitsSigned, neg_ℤ}
use Rattle.std.specs.Int.{w64, int_div_euclid, int_rem_euclid}
use Rattle.cspm_values.specs.declared.stop.Limit.TheVariants as limits
use Rattle.cspm_values.specs.Answers.{gives, fault, beyond}
use Rattle.cspm_values.specs.Limits.{limited}
use Rattle.cspm_values.specs.Numbers.{quotient, remainder}

and_left : (b : Bool) → (b && true) ≡ true → b ≡ true
and_left true e = refl
and_left false e = absurd cc

fits : (z : ℤ) → (int_le (negsuc 999999) z && int_le z (pos 1000000)) ≡ true → FitsSigned w64 z
fits (pos n) e = let h : n ≤ 1000000 = leb-true n 1000000 e in record { sfits = omega arith }
fits (negsuc n) e = let h : n ≤ 999999 = leb-true n 999999 (and_left (leb n 999999) e) in record { sfits = omega arith }

refused : (z : ℤ) (b : Bool) → (b ≡ true → ⊥) → cond b (gives z) (beyond limits.Numbers) ≡ beyond limits.Numbers
refused z true n = absurd (n refl)
refused z false n = refl

pub past : (z : ℤ) → (FitsSigned w64 z → ⊥) → limited z ≡ beyond limits.Numbers
unfolding limited
past z n = refused z (int_le (negsuc 999999) z && int_le z (pos 1000000)) (λ e. n (fits z e))

-- what is within the limits
bounded : (z : ℤ) → (int_le (negsuc 999999) z && int_le z (pos 1000000)) ≡ true → (negsuc 999999 ≤ℤ z) × (z ≤ℤ pos 1000000)
bounded (pos n) e = let h : n ≤ 1000000 = leb-true n 1000000 e in (omega (arith, ints), omega (arith, ints))
bounded (negsuc n) e = let h : n ≤ 999999 = leb-true n 999999 (and_left (leb n 999999) e) in (omega (arith, ints), omega (arith, ints))

kept : (z y : ℤ) (b : Bool) → cond b (gives z) (beyond limits.Numbers) ≡ gives y → (b ≡ true) × (z ≡ y)
kept z y true e = (refl, cc)
kept z y false e = absurd cc

pub within : (z y : ℤ) → limited z ≡ gives y → (negsuc 999999 ≤ℤ y) × (y ≤ℤ pos 1000000)
unfolding limited
within z y e =
    let k = kept z y (int_le (negsuc 999999) z && int_le z (pos 1000000)) e in
    let b = bounded z k.0 in
    let same : z ≡ y = k.1 in
    (omega (arith, ints, b.0), omega (arith, ints, b.1))

-- ---- division

pub quotient_none : (y z : ℤ) → z ≡ pos 0 → quotient y z ≡ fault
unfolding quotient
quotient_none y z e = ap (quotient y) e

pub quotient_above : (y z : ℤ) → pos 0 <ℤ z → quotient y z ≡ gives (int_div_euclid y z)
unfolding quotient
quotient_above y (pos zero) h = absurd (omega (arith, ints))
quotient_above y (pos (suc n)) h = refl
quotient_above y (negsuc n) h = absurd (omega (arith, ints))

pub quotient_below : (y z : ℤ) → z <ℤ pos 0 → quotient y z ≡ gives (int_div_euclid (neg_ℤ y) (neg_ℤ z))
unfolding quotient
quotient_below y (pos n) h = absurd (omega (arith, ints))
quotient_below y (negsuc n) h = refl

pub remainder_none : (y z : ℤ) → z ≡ pos 0 → remainder y z ≡ fault
unfolding remainder
remainder_none y z e = ap (remainder y) e

pub remainder_above : (y z : ℤ) → pos 0 <ℤ z → remainder y z ≡ gives (int_rem_euclid y z)
unfolding remainder
remainder_above y (pos zero) h = absurd (omega (arith, ints))
remainder_above y (pos (suc n)) h = refl
remainder_above y (negsuc n) h = absurd (omega (arith, ints))

pub remainder_below : (y z : ℤ) → z <ℤ pos 0 → remainder y z ≡ gives (neg_ℤ (int_rem_euclid (neg_ℤ y) (neg_ℤ z)))
unfolding remainder
remainder_below y (pos n) h = absurd (omega (arith, ints))
remainder_below y (negsuc n) h = refl

-- ---- results in 64 bits

-- the number as the code has it
abbrev stored : ℤ → ℤ
stored z = to_z w64 (of_z w64 z)

pub in_bits : (z : ℤ) → negsuc 999999 ≤ℤ z → z ≤ℤ pos 1000000 → FitsSigned w64 z
in_bits (pos n) low high = let h : n ≤ 1000000 = omega (arith, ints) in record { sfits = omega arith }
in_bits (negsuc n) low high = let h : n ≤ 999999 = omega (arith, ints) in record { sfits = omega arith }

turned_in_bits : (z : ℤ) → negsuc 999999 ≤ℤ z → z ≤ℤ pos 1000000 → FitsSigned w64 (neg_ℤ z)
turned_in_bits (pos zero) low high = record { sfits = omega arith }
turned_in_bits (pos (suc n)) low high = let h : n ≤ 999999 = omega (arith, ints) in record { sfits = omega arith }
turned_in_bits (negsuc n) low high = let h : n ≤ 999999 = omega (arith, ints) in record { sfits = omega arith }

opposite : (z : ℤ) → pos 0 -ℤ z ≡ neg_ℤ z
opposite z = omega (arith, ints)

turned : (z : ℤ) → negsuc 999999 ≤ℤ z → z ≤ℤ pos 1000000 → stored (pos 0 -ℤ stored z) ≡ neg_ℤ z
turned z low high =
    ap (λ (v : ℤ). stored (pos 0 -ℤ v)) (to_z-of_z w64 z (in_bits z low high)) ∙ ap stored (opposite z) ∙ to_z-of_z w64 (neg_ℤ z) (turned_in_bits z low high)

module _ (y z : ℤ) (low : negsuc 999999 ≤ℤ y) (high : y ≤ℤ pos 1000000) (bottom : negsuc 999999 ≤ℤ z) (top : z ≤ℤ pos 1000000) (r : ℤ) where
  pub quotient_up : FitsSigned w64 r → r ≡ int_div_euclid (stored y) (stored z) → pos 0 <ℤ z → quotient y z ≡ gives (stored r)
  quotient_up k e h =
      quotient_above y z h ∙ ap (λ (v : ℤ). gives v) (sym (to_z-of_z w64 r k ∙ e ∙ ap₂ int_div_euclid (to_z-of_z w64 y (in_bits y low high)) (to_z-of_z w64 z (in_bits z bottom top))))

  pub quotient_down : FitsSigned w64 r → r ≡ int_div_euclid (stored (pos 0 -ℤ stored y)) (stored (pos 0 -ℤ stored z)) → z <ℤ pos 0 → quotient y z ≡ gives (stored r)
  quotient_down k e h = quotient_below y z h ∙ ap (λ (v : ℤ). gives v) (sym (to_z-of_z w64 r k ∙ e ∙ ap₂ int_div_euclid (turned y low high) (turned z bottom top)))

  pub remainder_up : FitsSigned w64 r → r ≡ int_rem_euclid (stored y) (stored z) → pos 0 <ℤ z → remainder y z ≡ gives (stored r)
  remainder_up k e h =
      remainder_above y z h ∙ ap (λ (v : ℤ). gives v) (sym (to_z-of_z w64 r k ∙ e ∙ ap₂ int_rem_euclid (to_z-of_z w64 y (in_bits y low high)) (to_z-of_z w64 z (in_bits z bottom top))))

  pub remainder_down : (s : ℤ) → r ≡ int_rem_euclid (stored (pos 0 -ℤ stored y)) (stored (pos 0 -ℤ stored z)) → s ≡ neg_ℤ r → z <ℤ pos 0 → remainder y z ≡ gives s
  remainder_down s e k h = remainder_below y z h ∙ ap (λ (v : ℤ). gives v) (sym (k ∙ ap neg_ℤ (e ∙ ap₂ int_rem_euclid (turned y low high) (turned z bottom top))))

abbrev Bounded : ℤ → Type 0
Bounded z = (negsuc 999999 ≤ℤ z) × (z ≤ℤ pos 1000000)

stored_bounded : (z : ℤ) → Bounded z → Bounded (stored z)
stored_bounded z b = subst (λ (v : ℤ). Bounded v) (sym (to_z-of_z w64 z (in_bits z b.0 b.1))) b

pub both_stored : (y z : ℤ) → (negsuc 999999 ≤ℤ y) × (y ≤ℤ pos 1000000) → (negsuc 999999 ≤ℤ z) × (z ≤ℤ pos 1000000) → (negsuc 999999 ≤ℤ stored y) × (stored y ≤ℤ pos 1000000) × (negsuc 999999 ≤ℤ stored z) × (stored z ≤ℤ pos 1000000)
both_stored y z a b = let p = stored_bounded y a in let q = stored_bounded z b in (p.0, p.1, q.0, q.1)

pub both_plain : (y z : ℤ) → (negsuc 999999 ≤ℤ y) × (y ≤ℤ pos 1000000) → (negsuc 999999 ≤ℤ z) × (z ≤ℤ pos 1000000) → (negsuc 999999 ≤ℤ y) × (y ≤ℤ pos 1000000) × (negsuc 999999 ≤ℤ z) × (z ≤ℤ pos 1000000)
both_plain y z a b = (a.0, a.1, b.0, b.1)
