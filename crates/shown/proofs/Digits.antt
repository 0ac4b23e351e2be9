-- Counts as binary digits.
use Rattle.std.proofs.Common.{◌≡◌, ℕ, zero, suc, ◌+◌, ◌*◌, ◌<◌, ◌≤◌, ◌^◌, not, ◌&&◌, ◌||◌, Bool, true, false, cond, List, [], ◌∷◌, length, get_or, take, refl, ap, ap₂, sym, ◌∙◌, arith}
use Rattle.std.proofs.Math.ListN.{set}
use Rattle.std.proofs.lemmas.Grind.{pow_more}
use Rattle.std.proofs.lemmas.Nat.{pow_below}
use Rattle.std.proofs.lemmas.List.{length-take-le}
use Rattle.alphabet.specs.declared.events.Event.{Event}
use Rattle.alphabet.specs.EventSets.{Set, member}
use Rattle.shown.specs.Tallies.{tallied}

power : (n : ℕ) → 2 ^ suc n ≡ 2 * 2 ^ n
power n =
    let more = pow_more 2 n in
    let next : suc n ≡ n + 1 = omega arith in
    rw next (omega (arith, more))

digit_small : (b : Bool) → cond b 1 0 ≤ 1
digit_small true = omega arith
digit_small false = omega arith

-- a number is small for its digits
pub tallied_small : (Xs : List Set) (x : Event) → tallied Xs x < 2 ^ length Xs
tallied_small [] x = omega arith
tallied_small (X ∷ Xs) x = omega (arith, digit_small (member X x), tallied_small Xs x, power (length Xs))

twice : (b : Bool) (n : ℕ) → cond b (2 * n) 0 ≡ 2 * cond b n 0
twice true n = refl
twice false n = refl

-- one digit is another
pub replaced : (Xs : List Set) (i : ℕ) (X d : Set) (x : Event) → i < length Xs →
    tallied (set Xs i X) x + cond (member (get_or Xs i d) x) (2 ^ i) 0 ≡ tallied Xs x + cond (member X x) (2 ^ i) 0
replaced [] i X d x h = absurd (omega arith)
replaced (Y ∷ Xs) zero X d x h = omega arith
replaced (Y ∷ Xs) (suc i) X d x h =
    rw (power i) (omega (arith, replaced Xs i X d x (omega arith), twice (member (get_or Xs i d) x) (2 ^ i), twice (member X x) (2 ^ i)))

-- and the carry goes on
half : (b c : Bool) (p m n : ℕ) → n + cond b p 0 ≡ m + cond ((b && not c) || (c && not b)) p 0 → n + cond (c && not (c && not b)) (2 * p) 0 ≡ m + cond c p 0
half true true p m n e = omega arith
half true false p m n e = omega arith
half false true p m n e = omega arith
half false false p m n e = omega arith

pub next_digit : (Xs : List Set) (i : ℕ) (digit sum carry carry' d : Set) (x : Event) → i < length Xs → digit ≡ get_or Xs i d →
    member sum x ≡ ((member digit x && not (member carry x)) || (member carry x && not (member digit x))) →
    member carry' x ≡ (member carry x && not (member carry x && not (member digit x))) →
    tallied (set Xs i sum) x + cond (member carry' x) (2 ^ (i + 1)) 0 ≡ tallied Xs x + cond (member carry x) (2 ^ i) 0
next_digit Xs i digit sum carry carry' d x h is added carried =
    let kept = replaced Xs i sum d x h in
    let before : member digit x ≡ member (get_or Xs i d) x = ap (λ (X : Set). member X x) is in
    let two : tallied (set Xs i sum) x + cond (member digit x) (2 ^ i) 0 ≡ tallied Xs x + cond ((member digit x && not (member carry x)) || (member carry x && not (member digit x))) (2 ^ i) 0 =
    ap (λ b. tallied (set Xs i sum) x + cond b (2 ^ i) 0) before ∙ kept ∙ ap (λ b. tallied Xs x + cond b (2 ^ i) 0) added in
    let three = half (member digit x) (member carry x) (2 ^ i) (tallied Xs x) (tallied (set Xs i sum) x) two in
    let more : 2 ^ (i + 1) ≡ 2 * 2 ^ i = omega (arith, pow_more 2 i) in
    ap₂ (λ b p. tallied (set Xs i sum) x + cond b p 0) carried more ∙ three

further : (Xs : List Set) (i : ℕ) (d : Set) (x : Event) → i < length Xs → tallied (take (suc i) Xs) x ≡ tallied (take i Xs) x + cond (member (get_or Xs i d) x) (2 ^ i) 0
further [] i d x h = absurd (omega arith)
further (X ∷ Xs) zero d x h = omega arith
further (X ∷ Xs) (suc i) d x h =
    rw (power i) (omega (arith, further Xs i d x (omega arith), twice (member (get_or Xs i d) x) (2 ^ i)))

-- the number that the first digits make, and one digit more
pub one_further : (Xs : List Set) (i : ℕ) (d digit : Set) (x : Event) (number more : ℕ) → i < length Xs → digit ≡ get_or Xs i d →
    number ≡ tallied (take i Xs) x → more ≡ cond (member digit x) (2 ^ i) 0 → number + more ≡ tallied (take (i + 1) Xs) x
one_further Xs i d digit x number more h is first worth =
    let next : suc i ≡ i + 1 = omega arith in
    ap₂ (λ a b. a + b) first (worth ∙ ap (λ (X : Set). cond (member X x) (2 ^ i) 0) is) ∙ sym (further Xs i d x h) ∙ ap (λ j. tallied (take j Xs) x) next

at_most : (b : Bool) (p : ℕ) → cond b p 0 ≤ p
at_most true p = omega arith
at_most false p = omega arith

-- what it adds to the number of the first digits has room
pub has_room : (Xs : List Set) (i : ℕ) (x : Event) (b : Bool) (number more : ℕ) → i < length Xs → length Xs < 64 → number ≡ tallied (take i Xs) x → more ≡ cond b (2 ^ i) 0 → number + more < 2 ^ 64
has_room Xs i x b number more h few first worth =
    let powers : 2 ^ length (take i Xs) ≡ 2 ^ i = ap (λ (j : ℕ). 2 ^ j) (length-take-le i Xs (omega arith)) in
    let small : tallied (take i Xs) x < 2 ^ i = omega (arith, tallied_small (take i Xs) x, powers) in
    let digit : cond b (2 ^ i) 0 ≤ 2 ^ i = at_most b (2 ^ i) in
    let below : 2 ^ i < 2 ^ 63 = pow_below i 63 (omega arith) in
    omega (arith, small, digit, below)
