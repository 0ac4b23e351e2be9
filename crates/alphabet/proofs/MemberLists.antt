-- The members of a set, one after another.
use Rattle.std.proofs.Common.{◌≡◌, ◌≢◌, ℕ, zero, suc, ◌+◌, ◌<◌, ◌≤◌, Bool, true, false, cond, not, ◌&&◌, ◌||◌, nat_eq, [], ◌∷◌, filter, refl, sym, ap, ◌∙◌, arith, inl, inr}
use Rattle.std.specs.List.{range_with_len}
use Rattle.std.proofs.lemmas.Bool.Decides.{eqb_tells}
use Rattle.alphabet.specs.Events.{Event, tick, ev, is_event}
use Rattle.alphabet.specs.EventSets.{Set, has, member, members, members_below, IsFirst}

-- where nothing from a on passes, nothing is kept
none_kept : (p : ℕ → Bool) (a n : ℕ) → ((j : ℕ) → a ≤ j → p j ≡ false) → filter p (range_with_len a n) ≡ []
none_kept p a zero h = refl
none_kept p a (suc n) h = rw (h a (omega arith)) (none_kept p (a + 1) n (λ j b. h j (omega arith)))

-- tests that agree from a on keep the same
same_kept : (p q : ℕ → Bool) (a n : ℕ) → ((j : ℕ) → a ≤ j → p j ≡ q j) → filter p (range_with_len a n) ≡ filter q (range_with_len a n)
same_kept p q a zero h = refl
same_kept p q a (suc n) h = rw (h a (omega arith)) (ap (λ xs. cond (q a) (a ∷ xs) xs) (same_kept p q (a + 1) n (λ j b. h j (omega arith))))

-- the first number that passes, and what is kept after it
first_kept : (p q : ℕ → Bool) (k a n : ℕ) → a ≤ k → k < a + n → p k ≡ true → ((j : ℕ) → j < k → p j ≡ false) → q k ≡ false → ((j : ℕ) → k ≢ j → q j ≡ p j) → filter p (range_with_len a n) ≡ k ∷ filter q (range_with_len a n)
first_kept p q k a zero h l holds before misses others = absurd (omega arith)
first_kept p q k a (suc n) h l holds before misses others =
    elim (eqb_tells k a) [
      | inl e ↦
          let y : p a ≡ true = ap p (sym e.1) ∙ holds in
          let z : q a ≡ false = ap q (sym e.1) ∙ misses in
          rw (y, z) (ap (λ x. x ∷ filter p (range_with_len (a + 1) n)) (sym e.1) ∙ ap (λ xs. k ∷ xs) (same_kept p q (a + 1) n (λ j b. sym (others j (omega arith)))))
      | inr e ↦
          let y : p a ≡ false = before a (omega arith) in
          let z : q a ≡ false = others a e.1 ∙ y in
          rw (y, z) (first_kept p q k (a + 1) n (omega arith) (omega arith) holds before misses others)
    ]

below_nothing : (n : ℕ) (A : Set) → ((x : Event) → member A x ≡ false) → members_below n A ≡ []
unfolding members_below
below_nothing n A none = rw (none_kept (has A) 0 n (λ j b. none (ev j)), none tick) refl

-- a set without members
pub members_of_nothing : (A : Set) → ((x : Event) → member A x ≡ false) → members A ≡ []
members_of_nothing A none = below_nothing 256 A none

taken_out : (b : Bool) → (b && not (true || false)) ≡ false
taken_out true = refl
taken_out false = refl

left_in : (b : Bool) → (b && not (false || false)) ≡ b
left_in true = refl
left_in false = refl

same_number : (k : ℕ) → nat_eq k k ≡ true
same_number k = elim (eqb_tells k k) [ inl e ↦ e.0 | inr e ↦ absurd (e.1 refl) ]

other_number : (k a : ℕ) → k ≢ a → nat_eq k a ≡ false
other_number k a n = elim (eqb_tells k a) [ inl p ↦ absurd (n p.1) | inr p ↦ p.0 ]

below_from_first : (n : ℕ) (A N O B : Set) (x : Event) → 256 ≤ n → IsFirst A x → ((y : Event) → member N y ≡ false) → ((y : Event) → member O y ≡ (is_event x y || member N y)) → ((y : Event) → member B y ≡ (member A y && not (member O y))) → members_below n A ≡ x ∷ members_below n B
unfolding members_below
below_from_first n A N O B tick l f none one minus =
    let t : member B tick ≡ false = rw (minus tick, one tick) (taken_out (member A tick)) in
    let b : (j : ℕ) → has B j ≡ false = λ j. rw (minus (ev j), f.1 j) refl in
    rw (none_kept (has A) 0 n (λ j h. f.1 j), none_kept (has B) 0 n (λ j h. b j), f.0, t) refl
below_from_first n A N O B (ev k) l f none one minus =
    let t : member B tick ≡ member A tick = rw (minus tick, one tick, none tick) (left_in (member A tick)) in
    let b : has B k ≡ false = rw (minus (ev k), one (ev k), same_number k) (taken_out (has A k)) in
    let others : (j : ℕ) → k ≢ j → has B j ≡ has A j = λ j d. rw (minus (ev j), one (ev j), none (ev j), other_number k j d) (left_in (has A j)) in
    rw (t, first_kept (has A) (has B) k 0 n (omega arith) (omega (arith, f.0)) f.1 f.2 b others) refl

-- the set without its first member: that member, and then those of the other set
pub members_from_first : (A N O B : Set) (x : Event) → IsFirst A x → ((y : Event) → member N y ≡ false) → ((y : Event) → member O y ≡ (is_event x y || member N y)) → ((y : Event) → member B y ≡ (member A y && not (member O y))) → members A ≡ x ∷ members B
members_from_first A N O B x f none one minus = below_from_first 256 A N O B x (omega arith) f none one minus
