-- Sets of events as numbers, by their members.
use Rattle.std.proofs.Common.{◌≡◌, ℕ, zero, suc, ◌+◌, ◌-◌, ◌*◌, ◌^◌, ◌<◌, ◌≤◌, Bool, true, false, cond, ◌&&◌, nat_eq, nat_lt, refl, sym, ap, ap₂, ◌∙◌, arith}
use Rattle.std.specs.Int.{bit_at}
use Rattle.std.proofs.lemmas.Nat.Bits.{bit_at_cat_low, bit_at_cat_high, bit_at_above, bit_at-zero}
use Rattle.alphabet.specs.declared.events.Event.{Event}
use Rattle.alphabet.specs.declared.events.Event.TheVariants.{Tick as tick, Of as ev}
use Rattle.alphabet.specs.EventSets.{Set, has, member}
use Rattle.alphabet.proofs.Sets.{same_set}
use Rattle.event_phrases.specs.Events.{Events, set_below}

-- the events below n that are in the set
abbrev pub is_in : ℕ → Events → Event → Bool
is_in n A tick = false
is_in n A (ev a) = nat_lt a n && A a

abbrev bit : Bool → ℕ
bit b = cond b 1 0

-- the set with one event more
pub more_is : (n : ℕ) (A : Events) → set_below (suc n) A ≡ bit (A n) * 2 ^ (suc n) + set_below n A
unfolding set_below
more_is n A = by_test (A n)
  where
    by_test : (b : Bool) → cond b (2 ^ (suc n)) 0 + set_below n A ≡ bit b * 2 ^ (suc n) + set_below n A
    by_test true = omega arith
    by_test false = omega arith

small_bit : (b : Bool) → bit b < 2
small_bit true = omega arith
small_bit false = omega arith

pub small : (n : ℕ) (A : Events) → set_below n A < 2 ^ (suc n)
unfolding set_below
small zero A = omega arith
small (suc n) A =
    let h = small n A in
    let b = small_bit (A n) in
    let e : 2 ^ (suc (suc n)) ≡ 2 * 2 ^ (suc n) = omega arith in
    omega (arith, h, e, more_is n A, bounded (A n))
  where
    bounded : (b : Bool) → bit b * 2 ^ (suc n) ≤ 2 ^ (suc n)
    bounded true = omega arith
    bounded false = omega arith

pub split : (P : Type 0) (m n : ℕ) → (m < n → P) → (m ≡ n → P) → (n < m → P) → P
split P zero zero f g h = g refl
split P zero (suc n) f g h = f (omega arith)
split P (suc m) zero f g h = h (omega arith)
split P (suc m) (suc n) f g h = split P m n (λ a. f (omega (arith, a))) (λ a. g (ap suc a)) (λ a. h (omega (arith, a)))

pub lt_is : (a n : ℕ) → a < n → nat_lt a n ≡ true
lt_is a n h = grind (arith, h)

pub ge_is : (a n : ℕ) → n ≤ a → nat_lt a n ≡ false
ge_is a n h = grind (arith, h)

bit_low : (b : Bool) → bit_at (bit b) 0 ≡ bit b
bit_low true = refl
bit_low false = refl

bit_high : (b : Bool) (i : ℕ) → bit_at (bit b) (suc i) ≡ 0
bit_high true i = bit_at_above 1 1 (suc i) (omega arith) (omega arith)
bit_high false i = bit_at-zero (suc i)

bit_test : (b : Bool) → nat_eq (bit b) 1 ≡ b
bit_test true = refl
bit_test false = refl

pub has_is : (n : ℕ) (A : Events) (a : ℕ) → has (set_below n A) a ≡ (nat_lt a n && A a)
unfolding set_below
has_is zero A a = ap (λ (k : ℕ). nat_eq k 1) (bit_at-zero (suc a)) ∙ sym (ap (λ b. b && A a) (ge_is a 0 (omega arith)))
has_is (suc n) A a = ap (λ S. has S a) (more_is n A) ∙ split _ a n (below (has_is n A a)) at above
  where
    below : has (set_below n A) a ≡ (nat_lt a n && A a) → a < n → has (bit (A n) * 2 ^ (suc n) + set_below n A) a ≡ (nat_lt a (suc n) && A a)
    below r h =
        ap (λ (k : ℕ). nat_eq k 1) (bit_at_cat_low (bit (A n)) (suc n) (set_below n A) (suc a) (omega (arith, h))) ∙ r
        ∙ ap (λ b. b && A a) (lt_is a n h ∙ sym (lt_is a (suc n) (omega (arith, h))))

    at : a ≡ n → has (bit (A n) * 2 ^ (suc n) + set_below n A) a ≡ (nat_lt a (suc n) && A a)
    at h =
        let e : suc a - suc n ≡ 0 = omega (arith, h) in
        ap (λ (k : ℕ). nat_eq k 1) (bit_at_cat_high (bit (A n)) (suc n) (set_below n A) (suc a) (small n A) (omega (arith, h)) ∙ ap (bit_at (bit (A n))) e ∙ bit_low (A n)) ∙ bit_test (A n)
        ∙ ap A (sym h) ∙ sym (ap (λ b. b && A a) (lt_is a (suc n) (omega (arith, h))))

    above : n < a → has (bit (A n) * 2 ^ (suc n) + set_below n A) a ≡ (nat_lt a (suc n) && A a)
    above h =
        let e : suc a - suc n ≡ suc (a - n - 1) = omega (arith, h) in
        ap (λ (k : ℕ). nat_eq k 1) (bit_at_cat_high (bit (A n)) (suc n) (set_below n A) (suc a) (small n A) (omega (arith, h)) ∙ ap (bit_at (bit (A n))) e ∙ bit_high (A n) (a - n - 1))
        ∙ sym (ap (λ b. b && A a) (ge_is a (suc n) (omega (arith, h))))

no_tick : (n : ℕ) (A : Events) → bit_at (set_below n A) 0 ≡ 0
unfolding set_below
no_tick zero A = bit_at-zero 0
no_tick (suc n) A = ap (λ S. bit_at S 0) (more_is n A) ∙ bit_at_cat_low (bit (A n)) (suc n) (set_below n A) 0 (omega arith) ∙ no_tick n A

pub member_is : (n : ℕ) (A : Events) (x : Event) → member (set_below n A) x ≡ is_in n A x
member_is n A tick = ap (λ (k : ℕ). nat_eq k 1) (no_tick n A)
member_is n A (ev a) = has_is n A a

-- a set with these members is this number
pub is_below : (n : ℕ) (A : Events) (S : Set) → ((x : Event) → member S x ≡ is_in n A x) → S ≡ set_below n A
is_below n A S h = same_set S (set_below n A) (λ x. h x ∙ sym (member_is n A x))

-- sets that agree on the events below n
pub below_same : (n : ℕ) (A B : Events) → ((a : ℕ) → a < n → A a ≡ B a) → set_below n A ≡ set_below n B
unfolding set_below
below_same zero A B h = refl
below_same (suc n) A B h = ap₂ (λ b k. (cond b (2 ^ (suc n)) 0) + k) (h n (omega arith)) (below_same n A B (λ a k. h a (omega (arith, k))))

pub inside_is : (n : ℕ) (A : Events) (a : ℕ) → a < n → A a ≡ has (set_below n A) a
inside_is n A a h = sym (has_is n A a ∙ ap (λ b. b && A a) (lt_is a n h))
