-- Sets of events by their members.
use Rattle.std.proofs.Common.{◌≡◌, ◌↔◌, ℕ, zero, suc, ◌+◌, ◌<◌, Bool, true, false, IsTrue, not, ◌&&◌, ◌||◌, nat_eq, nat_lt, refl, sym, ap, ◌∙◌, arith, eq-eqb}
use Rattle.std.proofs.lemmas.Bool.{eqb-true, false≢true}
use Rattle.std.specs.Int.{bit_at}
use Rattle.std.proofs.lemmas.Nat.Bits.{bit_at-lt, same_from_bits}
use Rattle.std.proofs.lemmas.Bool.Decides.{nat_tests}
use Rattle.alphabet.specs.Events.{Event, tick, ev, is_event, is_numbered_below}
use Rattle.alphabet.specs.EventSets.{Set, member}

-- two bits that answer the same test are the same
same_digit : (a b : ℕ) → a < 2 → b < 2 → nat_eq a 1 ≡ nat_eq b 1 → a ≡ b
same_digit zero zero h k e = refl
same_digit (suc zero) (suc zero) h k e = refl
same_digit zero (suc zero) h k e = absurd (cc)
same_digit (suc zero) zero h k e = absurd (cc)
same_digit zero (suc (suc b)) h k e = absurd (omega arith)
same_digit (suc zero) (suc (suc b)) h k e = absurd (omega arith)
same_digit (suc (suc a)) b h k e = absurd (omega arith)

pub same_bit : (A B i j : ℕ) → nat_eq (bit_at A i) 1 ≡ nat_eq (bit_at B j) 1 → bit_at A i ≡ bit_at B j
same_bit A B i j e = same_digit (bit_at A i) (bit_at B j) (bit_at-lt A i) (bit_at-lt B j) e

same_bits : (A B : Set) → ((x : Event) → member A x ≡ member B x) → (i : ℕ) → bit_at A i ≡ bit_at B i
same_bits A B e zero = same_bit A B zero zero (e tick)
same_bits A B e (suc a) = same_bit A B (suc a) (suc a) (e (ev a))

-- sets with the same members are one set
pub same_set : (A B : Set) → ((x : Event) → member A x ≡ member B x) → A ≡ B
same_set A B e = same_from_bits A B (same_bits A B e)

-- a set that tests equal to a set of nothing has no members, and the other way round
pub nothing_by_test : (A N : Set) (b : Bool) → ((x : Event) → member N x ≡ false) → b ≡ nat_eq A N → IsTrue b ↔ ((x : Event) → member A x ≡ false)
nothing_by_test A N b none e = (
  (λ t x. ap (λ S. member S x) (eqb-true A N (sym e ∙ t)) ∙ none x),
  (λ h. e ∙ eq-eqb A N (same_set A N (λ x. h x ∙ sym (none x)))),
)

within_one : (a b : Bool) → (a && not b) ≡ false → a ≡ true → b ≡ true
within_one true true e t = refl
within_one true false e t = absurd (cc)
within_one false true e t = refl
within_one false false e t = absurd (cc)

nothing_left : (a b : Bool) → (a ≡ true → b ≡ true) → (a && not b) ≡ false
nothing_left true true h = refl
nothing_left true false h = absurd (false≢true (h refl))
nothing_left false b h = refl

-- where the difference of two sets is empty, the first is within the second
pub within_by_difference : (A B D : Set) (b : Bool) → ((x : Event) → member D x ≡ (member A x && not (member B x))) → IsTrue b ↔ ((x : Event) → member D x ≡ false) → IsTrue b ↔ ((x : Event) → IsTrue (member A x) → IsTrue (member B x))
within_by_difference A B D b d e = (
  (λ t x. within_one (member A x) (member B x) (sym (d x) ∙ e.0 t x)),
  (λ h. e.1 (λ x. d x ∙ nothing_left (member A x) (member B x) (h x))),
)

-- one event more
below_next : (n a : ℕ) → (nat_eq n a || nat_lt a n) ≡ nat_lt a (n + 1)
below_next n a = grind (arith, nat_tests)

pub numbered_more : (A B : Set) (n : ℕ) → ((x : Event) → member A x ≡ is_numbered_below n x) → ((x : Event) → member B x ≡ (is_event (ev n) x || member A x)) → (x : Event) → member B x ≡ is_numbered_below (n + 1) x
numbered_more A B n e f tick = f tick ∙ e tick
numbered_more A B n e f (ev a) = f (ev a) ∙ ap (λ b. nat_eq n a || b) (e (ev a)) ∙ below_next n a
