-- The number of a set from its two words and its flag, bit by bit.
use Rattle.std.proofs.Common.{◌≡◌, ◌≢◌, ℕ, zero, suc, ◌+◌, ◌-◌, ◌*◌, ◌/◌, ◌%◌, ◌^◌, ◌<◌, ◌≤◌, Bool, true, false, cond, nat_eq, not, ◌&&◌, ◌||◌, inl, inr, min, max, bit_and, bit_or, refl, sym, ap, ◌∙◌, arith}
use Rattle.std.specs.Int.{bit_at, bit_not, trailing_zeros, w128}
use Rattle.std.proofs.lemmas.Nat.{or_lt, and_le_l}
use Rattle.std.proofs.lemmas.Nat.Bits.{bit_at_cat_high, bit_at_cat_low, shr_and_one, bit_at_or, bit_at_and, bit_at_not, bit_at_above, bit_at-lt, bit_at-zero, bit_at_set_same, bit_at_set_other, same_from_bits_below, bit_at-trailing_zeros}
use Rattle.std.proofs.lemmas.Bool.{cases_lt}
use Rattle.std.proofs.lemmas.Bool.Decides.{eqb_tells}
use Rattle.alphabet.specs.Events.{Event, tick, ev, is_event}
use Rattle.alphabet.specs.EventSets.{has, member, IsFirst}
use Rattle.alphabet.proofs.Sets.{same_bit}

-- the number of the set whose words and flag are these
abbrev pub set_number : ℕ → ℕ → Bool → ℕ
set_number low high t = (high * 2 ^ 128 + low) * 2 ^ 1 + cond t 1 0

flag-lt : (t : Bool) → cond t 1 0 < 2 ^ 1
flag-lt true = omega arith
flag-lt false = omega arith

-- the bits of the two words, after tick's
bit_at-set_number : (low high : ℕ) (t : Bool) (k : ℕ) → bit_at (set_number low high t) (suc k) ≡ bit_at (high * 2 ^ 128 + low) k
bit_at-set_number low high t k =
    let e : suc k - 1 ≡ k = omega arith in
    let f : bit_at (set_number low high t) (suc k) ≡ bit_at (high * 2 ^ 128 + low) (suc k - 1) = bit_at_cat_high (high * 2 ^ 128 + low) 1 (cond t 1 0) (suc k) (flag-lt t) (omega arith) in
    f ∙ ap (bit_at (high * 2 ^ 128 + low)) e

pub has_low : (low high : ℕ) (t : Bool) (k : ℕ) → k < 128 → has (set_number low high t) k ≡ nat_eq (bit_at low k) 1
has_low low high t k h = ap (λ n. nat_eq n 1) (bit_at-set_number low high t k ∙ bit_at_cat_low high 128 low k h)

pub has_high : (low high : ℕ) (t : Bool) (k : ℕ) → low < 2 ^ 128 → 128 ≤ k → has (set_number low high t) k ≡ nat_eq (bit_at high (k - 128)) 1
has_high low high t k l h = ap (λ n. nat_eq n 1) (bit_at-set_number low high t k ∙ bit_at_cat_high high 128 low k l h)

pub has_tick : (low high : ℕ) (t : Bool) → member (set_number low high t) tick ≡ t
has_tick low high true = ap (λ n. nat_eq n 1) (bit_at_cat_low (high * 2 ^ 128 + low) 1 1 0 (omega arith))
has_tick low high false = ap (λ n. nat_eq n 1) (bit_at_cat_low (high * 2 ^ 128 + low) 1 0 0 (omega arith))

pub has_low_by_shift : (low high : ℕ) (t : Bool) (k : ℕ) → k < 128 → nat_eq (bit_and (low / 2 ^ k) 1) 1 ≡ has (set_number low high t) k
has_low_by_shift low high t k h = ap (λ n. nat_eq n 1) (shr_and_one low k) ∙ sym (has_low low high t k h)

pub has_high_by_shift : (low high : ℕ) (t : Bool) (k : ℕ) → low < 2 ^ 128 → 128 ≤ k → nat_eq (bit_and (high / 2 ^ (k - 128)) 1) 1 ≡ has (set_number low high t) k
has_high_by_shift low high t k l h = ap (λ n. nat_eq n 1) (shr_and_one high (k - 128)) ∙ sym (has_high low high t k l h)

-- no event has a number past 255
pub has_above : (low high : ℕ) (t : Bool) (k : ℕ) → low < 2 ^ 128 → high < 2 ^ 128 → 256 ≤ k → has (set_number low high t) k ≡ false
has_above low high t k l h b =
    has_high low high t k l (omega arith) ∙ ap (λ n. nat_eq n 1) (bit_at_above high 128 (k - 128) h (omega arith))

one_of_two : (x y : ℕ) → x < 2 → y < 2 → nat_eq (max x y) 1 ≡ (nat_eq x 1 || nat_eq y 1)
one_of_two zero zero h k = refl
one_of_two zero (suc zero) h k = refl
one_of_two (suc zero) zero h k = refl
one_of_two (suc zero) (suc zero) h k = refl
one_of_two zero (suc (suc y)) h k = absurd (omega arith)
one_of_two (suc zero) (suc (suc y)) h k = absurd (omega arith)
one_of_two (suc (suc x)) y h k = absurd (omega arith)

one_not_other : (x y : ℕ) → x < 2 → y < 2 → nat_eq (min x (1 - y)) 1 ≡ (nat_eq x 1 && not (nat_eq y 1))
one_not_other zero zero h k = refl
one_not_other zero (suc zero) h k = refl
one_not_other (suc zero) zero h k = refl
one_not_other (suc zero) (suc zero) h k = refl
one_not_other zero (suc (suc y)) h k = absurd (omega arith)
one_not_other (suc zero) (suc (suc y)) h k = absurd (omega arith)
one_not_other (suc (suc x)) y h k = absurd (omega arith)

bit_or_one : (l m i : ℕ) → nat_eq (bit_at (bit_or l m) i) 1 ≡ (nat_eq (bit_at l i) 1 || nat_eq (bit_at m i) 1)
bit_or_one l m i = ap (λ n. nat_eq n 1) (bit_at_or l m i) ∙ one_of_two (bit_at l i) (bit_at m i) (bit_at-lt l i) (bit_at-lt m i)

bit_minus_one : (l m i : ℕ) → m < 2 ^ 128 → i < 128 → nat_eq (bit_at (bit_and l (bit_not w128 m)) i) 1 ≡ (nat_eq (bit_at l i) 1 && not (nat_eq (bit_at m i) 1))
bit_minus_one l m i h k =
    ap (λ n. nat_eq n 1) (bit_at_and l (bit_not w128 m) i ∙ ap (min (bit_at l i)) (bit_at_not w128 m i h k))
    ∙ one_not_other (bit_at l i) (bit_at m i) (bit_at-lt l i) (bit_at-lt m i)

pub member_union : (l h l' h' : ℕ) (s t : Bool) → l < 2 ^ 128 → l' < 2 ^ 128 → (x : Event) → member (set_number (bit_or l l') (bit_or h h') (s || t)) x ≡ (member (set_number l h s) x || member (set_number l' h' t) x)
member_union l h l' h' s t p q tick = rw (has_tick (bit_or l l') (bit_or h h') (s || t), has_tick l h s, has_tick l' h' t) refl
member_union l h l' h' s t p q (ev a) =
    elim (cases_lt a 128) [
      | inl b ↦ rw (has_low (bit_or l l') (bit_or h h') (s || t) a b, has_low l h s a b, has_low l' h' t a b) (bit_or_one l l' a)
      | inr b ↦ rw (has_high (bit_or l l') (bit_or h h') (s || t) a (or_lt 128 l l' p q) b, has_high l h s a p b, has_high l' h' t a q b) (bit_or_one h h' (a - 128))
    ]

pub member_minus : (l h l' h' : ℕ) (s t : Bool) → l < 2 ^ 128 → h < 2 ^ 128 → l' < 2 ^ 128 → h' < 2 ^ 128 → (x : Event) → member (set_number (bit_and l (bit_not w128 l')) (bit_and h (bit_not w128 h')) (s && not t)) x ≡ (member (set_number l h s) x && not (member (set_number l' h' t) x))
member_minus l h l' h' s t p p' q r tick = rw (has_tick (bit_and l (bit_not w128 l')) (bit_and h (bit_not w128 h')) (s && not t), has_tick l h s, has_tick l' h' t) refl
member_minus l h l' h' s t p p' q r (ev a) =
    let low : bit_and l (bit_not w128 l') < 2 ^ 128 = omega (arith, and_le_l l (bit_not w128 l')) in
    let high : bit_and h (bit_not w128 h') < 2 ^ 128 = omega (arith, and_le_l h (bit_not w128 h')) in
    elim (cases_lt a 128) [
      | inl b ↦ rw (has_low (bit_and l (bit_not w128 l')) (bit_and h (bit_not w128 h')) (s && not t) a b, has_low l h s a b, has_low l' h' t a b) (bit_minus_one l l' a q b)
      | inr b ↦ elim (cases_lt a 256) [
        | inl c ↦ rw (has_high (bit_and l (bit_not w128 l')) (bit_and h (bit_not w128 h')) (s && not t) a low b, has_high l h s a p b, has_high l' h' t a q b) (bit_minus_one h h' (a - 128) r (omega arith))
        | inr c ↦ rw (has_above (bit_and l (bit_not w128 l')) (bit_and h (bit_not w128 h')) (s && not t) a low high c, has_above l h s a p p' c) refl
      ]
    ]

pub member_with_tick : (l h : ℕ) (s : Bool) → l < 2 ^ 128 → (x : Event) → member (set_number l h true) x ≡ (is_event tick x || member (set_number l h s) x)
member_with_tick l h s p tick = has_tick l h true
member_with_tick l h s p (ev a) =
    elim (cases_lt a 128) [
      | inl b ↦ has_low l h true a b ∙ sym (has_low l h s a b)
      | inr b ↦ has_high l h true a p b ∙ sym (has_high l h s a p b)
    ]

-- the bit of one event, set in a word
set_one : (l k a : ℕ) → k < 128 → nat_eq (bit_at (bit_or l (1 * 2 ^ k % 2 ^ 128)) a) 1 ≡ (nat_eq k a || nat_eq (bit_at l a) 1)
set_one l k a h =
    elim (eqb_tells k a) [
      | inl p ↦ rw (p.0, ← p.1) (ap (λ n. nat_eq n 1) (bit_at_set_same w128 l k h))
      | inr p ↦ rw p.0 (ap (λ n. nat_eq n 1) (bit_at_set_other w128 l k h a (λ e. p.1 (sym e))))
    ]

other_number : (k a : ℕ) → k ≢ a → nat_eq k a ≡ false
other_number k a n = elim (eqb_tells k a) [ inl p ↦ absurd (n p.1) | inr p ↦ p.0 ]

pub member_with_low : (l h k : ℕ) (s : Bool) → l < 2 ^ 128 → k < 128 → bit_or l (1 * 2 ^ k % 2 ^ 128) < 2 ^ 128 → (x : Event) → member (set_number (bit_or l (1 * 2 ^ k % 2 ^ 128)) h s) x ≡ (is_event (ev k) x || member (set_number l h s) x)
member_with_low l h k s p q n tick = has_tick (bit_or l (1 * 2 ^ k % 2 ^ 128)) h s ∙ sym (has_tick l h s)
member_with_low l h k s p q n (ev a) =
    elim (cases_lt a 128) [
      | inl b ↦ rw (has_low (bit_or l (1 * 2 ^ k % 2 ^ 128)) h s a b, has_low l h s a b) (set_one l k a q)
      | inr b ↦ let ne : k ≢ a = omega arith in
          rw (has_high (bit_or l (1 * 2 ^ k % 2 ^ 128)) h s a n b, has_high l h s a p b, other_number k a ne) refl
    ]

same_number_below : (k a b : ℕ) → b ≤ k → b ≤ a → nat_eq (k - b) (a - b) ≡ nat_eq k a
same_number_below k a b h j =
    elim (eqb_tells k a) [
      | inl p ↦ elim (eqb_tells (k - b) (a - b)) [ inl q ↦ q.0 ∙ sym p.0 | inr q ↦ absurd (q.1 (omega arith)) ]
      | inr p ↦ rw p.0 (other_number (k - b) (a - b) (λ e. p.1 (omega arith)))
    ]

pub member_with_high : (l h k : ℕ) (s : Bool) → l < 2 ^ 128 → 128 ≤ k → k < 256 → (x : Event) → member (set_number l (bit_or h (1 * 2 ^ (k - 128) % 2 ^ 128)) s) x ≡ (is_event (ev k) x || member (set_number l h s) x)
member_with_high l h k s p q r tick = has_tick l (bit_or h (1 * 2 ^ (k - 128) % 2 ^ 128)) s ∙ sym (has_tick l h s)
member_with_high l h k s p q r (ev a) =
    elim (cases_lt a 128) [
      | inl b ↦ let ne : k ≢ a = omega arith in
          rw (has_low l (bit_or h (1 * 2 ^ (k - 128) % 2 ^ 128)) s a b, has_low l h s a b, other_number k a ne) refl
      | inr b ↦
          rw (has_high l (bit_or h (1 * 2 ^ (k - 128) % 2 ^ 128)) s a p b, has_high l h s a p b, ← same_number_below k a 128 q b)
          (set_one h (k - 128) (a - 128) (omega arith))
    ]

no_bit : (n i : ℕ) → nat_eq (bit_at n i) 1 ≡ false → bit_at n i ≡ bit_at 0 i
no_bit n i e = same_bit n 0 i i (e ∙ sym (ap (λ m. nat_eq m 1) (bit_at-zero i)))

-- a set without members has empty words
pub words_of_nothing : (l h : ℕ) (t : Bool) → l < 2 ^ 128 → h < 2 ^ 128 → ((x : Event) → member (set_number l h t) x ≡ false) → (l ≡ 0) × (h ≡ 0) × (t ≡ false)
words_of_nothing l h t p q none = (
  same_from_bits_below 128 l 0 p (omega arith) (λ i b. no_bit l i (sym (has_low l h t i b) ∙ none (ev i))),
  same_from_bits_below 128 h 0 q (omega arith) (λ i b.
      let e : i + 128 - 128 ≡ i = omega arith in
      no_bit h i (ap (λ n. nat_eq (bit_at h n) 1) (sym e) ∙ sym (has_high l h t (i + 128) p (omega arith)) ∙ none (ev (i + 128)))),
  sym (has_tick l h t) ∙ none tick,
)

pub nothing_in_empty_words : (x : Event) → member (set_number 0 0 false) x ≡ false
nothing_in_empty_words tick = refl
nothing_in_empty_words (ev a) = ap (λ n. nat_eq n 1) (bit_at-zero (suc a))

pub first_low : (l h : ℕ) (t : Bool) → l < 2 ^ 128 → 0 < l → IsFirst (set_number l h t) (ev (trailing_zeros w128 l))
first_low l h t p pos =
    let z = bit_at-trailing_zeros w128 l pos p in (
      omega (arith, z.0),
      has_low l h t (trailing_zeros w128 l) z.0 ∙ ap (λ n. nat_eq n 1) z.1,
      λ a b. has_low l h t a (omega (arith, z.0)) ∙ ap (λ n. nat_eq n 1) (z.2 a b),
    )

pub first_high : (h : ℕ) (t : Bool) → h < 2 ^ 128 → 0 < h → IsFirst (set_number 0 h t) (ev (128 + trailing_zeros w128 h))
first_high h t p pos =
    let z = bit_at-trailing_zeros w128 h pos p in
    let e : 128 + trailing_zeros w128 h - 128 ≡ trailing_zeros w128 h = omega arith in (
      omega (arith, z.0),
      has_high 0 h t (128 + trailing_zeros w128 h) (omega arith) (omega arith) ∙ ap (λ n. nat_eq (bit_at h n) 1) e ∙ ap (λ n. nat_eq n 1) z.1,
      λ a b. elim (cases_lt a 128) [
        | inl c ↦ has_low 0 h t a c ∙ ap (λ n. nat_eq n 1) (bit_at-zero a)
        | inr c ↦ has_high 0 h t a (omega arith) c ∙ ap (λ n. nat_eq n 1) (z.2 (a - 128) (omega arith))
      ],
    )
