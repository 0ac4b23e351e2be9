-- A process has one list of minimal acceptances after a trace.
use Rattle.std.proofs.Common.{◌≡◌, ℕ, zero, suc, ◌+◌, ◌%◌, ◌<◌, Bool, true, false, not, ◌&&◌, ◌||◌, IsTrue, nat_eq, max, bit_or, inl, inr, List, [], ◌∷◌, refl, sym, ap, ap₂, ◌∙◌, subst, arith, true≢false}
use Rattle.std.specs.Int.{bit_at}
use Rattle.std.specs.Int.Bits.{bit_xor}
use Rattle.std.proofs.lemmas.Nat.Bits.{bit_at_or, bit_at_xor, bit_at-lt, bit_at-zero}
use Rattle.std.proofs.lemmas.Bool.Decides.{eqb_tells, leb_tells}
use Rattle.alphabet.specs.declared.events.Event.{Event}
use Rattle.alphabet.specs.declared.events.Event.TheVariants.{Tick as tick, Of as ev}
use Rattle.alphabet.specs.EventSets.{Set, member}
use Rattle.alphabet.proofs.Sets.{same_set}
use Rattle.term.specs.Proc.{Proc}
use Rattle.term.specs.Traces.{In, here, there}
use Rattle.history.specs.Acceptances.{AreAcceptances, AreOrdered, ComesBefore, IsEarlier, IsPart}

-- ---- sets by their bits
or-digit : (x y : ℕ) → x < 2 → y < 2 → nat_eq (max x y) 1 ≡ (nat_eq x 1 || nat_eq y 1)
or-digit zero zero h k = refl
or-digit zero (suc zero) h k = refl
or-digit (suc zero) zero h k = refl
or-digit (suc zero) (suc zero) h k = refl
or-digit zero (suc (suc y)) h k = absurd (omega arith)
or-digit (suc zero) (suc (suc y)) h k = absurd (omega arith)
or-digit (suc (suc x)) y h k = absurd (omega arith)

less-digit : (x y : ℕ) → x < 2 → y < 2 → nat_eq ((max x y + y) % 2) 1 ≡ (nat_eq x 1 && not (nat_eq y 1))
less-digit zero zero h k = refl
less-digit zero (suc zero) h k = refl
less-digit (suc zero) zero h k = refl
less-digit (suc zero) (suc zero) h k = refl
less-digit zero (suc (suc y)) h k = absurd (omega arith)
less-digit (suc zero) (suc (suc y)) h k = absurd (omega arith)
less-digit (suc (suc x)) y h k = absurd (omega arith)

or-bit : (A B i : ℕ) → nat_eq (bit_at (bit_or A B) i) 1 ≡ (nat_eq (bit_at A i) 1 || nat_eq (bit_at B i) 1)
or-bit A B i = ap (λ n. nat_eq n 1) (bit_at_or A B i) ∙ or-digit (bit_at A i) (bit_at B i) (bit_at-lt A i) (bit_at-lt B i)

-- the first set without the second
abbrev less : Set → Set → Set
less A B = bit_xor (bit_or A B) B

less-bit : (A B i : ℕ) → nat_eq (bit_at (less A B) i) 1 ≡ (nat_eq (bit_at A i) 1 && not (nat_eq (bit_at B i) 1))
less-bit A B i =
    ap (λ n. nat_eq n 1) (bit_at_xor (bit_or A B) B i ∙ ap (λ n. (n + bit_at B i) % 2) (bit_at_or A B i))
    ∙ less-digit (bit_at A i) (bit_at B i) (bit_at-lt A i) (bit_at-lt B i)

member-or : (A B : Set) (x : Event) → member (bit_or A B) x ≡ (member A x || member B x)
member-or A B tick = or-bit A B 0
member-or A B (ev a) = or-bit A B (suc a)

member-less : (A B : Set) (x : Event) → member (less A B) x ≡ (member A x && not (member B x))
member-less A B tick = less-bit A B 0
member-less A B (ev a) = less-bit A B (suc a)

member-none : (x : Event) → member 0 x ≡ false
member-none tick = ap (λ n. nat_eq n 1) (bit_at-zero 0)
member-none (ev a) = ap (λ n. nat_eq n 1) (bit_at-zero (suc a))

-- ---- what is in one of some sets, and not in A
abbrev beyond : Set → List Set → Set
beyond A [] = 0
beyond A (O ∷ sets) = bit_or (less O A) (beyond A sets)

off-both : (a b c : Bool) → b ≡ true → c ≡ false → (a && not b || c) ≡ false
off-both true b c e f = ap₂ (λ p q. not p || q) e f
off-both false b c e f = f

on-first : (a b c : Bool) → a ≡ true → b ≡ false → (a && not b || c) ≡ true
on-first a b c e f = ap₂ (λ p q. p && not q || c) e f

on-second : (a c : Bool) → c ≡ true → (a || c) ≡ true
on-second true c e = refl
on-second false c e = e

beyond-apart : (A : Set) (sets : List Set) (x : Event) → IsTrue (member A x) → member (beyond A sets) x ≡ false
beyond-apart A [] x m = member-none x
beyond-apart A (O ∷ sets) x m =
    member-or (less O A) (beyond A sets) x ∙ ap (λ b. b || member (beyond A sets) x) (member-less O A x)
    ∙ off-both (member O x) (member A x) (member (beyond A sets) x) m (beyond-apart A sets x m)

beyond-has : (A O : Set) (sets : List Set) (x : Event) → In O sets → member O x ≡ true → member A x ≡ false → member (beyond A sets) x ≡ true
beyond-has A O [] x i o a = elim i [ ]
beyond-has A O (Q ∷ sets) x here o a =
    member-or (less Q A) (beyond A sets) x ∙ ap (λ b. b || member (beyond A sets) x) (member-less Q A x)
    ∙ on-first (member Q x) (member A x) (member (beyond A sets) x) o a
beyond-has A O (Q ∷ sets) x (there i) o a =
    member-or (less Q A) (beyond A sets) x ∙ on-second (member (less Q A) x) (member (beyond A sets) x) (beyond-has A O sets x i o a)

-- what has nothing of that lies within A
apart-part : (A O : Set) (sets : List Set) → In O sets → ((x : Event) → IsTrue (member O x) → IsTrue (member (beyond A sets) x) → ⊥) → IsPart O A
apart-part A O sets i apart x m = go (member A x) refl
  where
    go : (b : Bool) → member A x ≡ b → IsTrue (member A x)
    go true e = e
    go false e = absurd (apart x m (beyond-has A O sets x i m e))

pub same-test : (a b : Bool) → (IsTrue a → IsTrue b) → (IsTrue b → IsTrue a) → a ≡ b
same-test true b f g = sym (f refl)
same-test false true f g = g refl
same-test false false f g = refl

-- ---- each of the one list is one of the other
module _ (B : ℕ → Proc) (P : Proc) (u : List Event) where
  least-within : (first second : List Set) → AreAcceptances B P u first → AreAcceptances B P u second → (A : Set) → In A first → (O : Set) × In O second × IsPart O A
  least-within first second p q A i =
      let (O, j, apart) = (q.exact (beyond A second)).0 ((p.exact (beyond A second)).1 (A, i, λ x m n. true≢false (sym n ∙ beyond-apart A second x m))) in
      (O, j, apart-part A O second j apart)

  in-other : (first second : List Set) → AreAcceptances B P u first → AreAcceptances B P u second → (A : Set) → In A first → In A second
  in-other first second p q A i =
      let (O, j, part) = least-within first second p q A i in
      let (M, k, part') = least-within second first q p O j in
      let e : M ≡ A = p.least M A k i (λ x m. part x (part' x m)) in
      let within : IsPart A O = subst (λ (S : Set). IsPart S O) e part' in
      subst (λ (S : Set). In S second) (same_set O A (λ x. same-test (member O x) (member A x) (part x) (within x))) j

-- ---- and they are in one order
data Compared (x y : Event) : Type 0 where
  is-first : IsEarlier x y → Compared x y
  is-same : x ≡ y → Compared x y
  is-last : IsEarlier y x → Compared x y

compared : (x y : Event) → Compared x y
compared tick tick = is-same refl
compared tick (ev b) = is-last tt
compared (ev a) tick = is-first tt
compared (ev a) (ev b) =
    elim (eqb_tells a b) [
      | inl s ↦ is-same (ap ev s.1)
      | inr d ↦ elim (leb_tells a b) [ inl h ↦ is-first (omega (arith, h.1, d.1)) | inr h ↦ is-last h.1 ]
    ]

one-before : (M O : Set) → ComesBefore M O → ComesBefore O M → ⊥
one-before M O (x, m, o, f) (y, o', m', g) =
    elim (compared x y) [
      | is-first h ↦ true≢false (sym m ∙ sym (g x h) ∙ o)
      | is-same s ↦ true≢false (sym m ∙ ap (member M) s ∙ m')
      | is-last h ↦ true≢false (sym o' ∙ sym (f y h) ∙ m')
    ]

not-before-itself : (M : Set) → ComesBefore M M → ⊥
not-before-itself M (x, m, o, f) = true≢false (sym m ∙ o)

rest-in : (M x : Set) (first second : List Set) → ((O : Set) → In O first → ComesBefore x O) → In M first → In M (x ∷ second) → In M second
rest-in M x first second before i here = absurd (not-before-itself M (before M i))
rest-in M x first second before i (there j) = j

first-same : (x y : Set) (first second : List Set) → ((O : Set) → In O first → ComesBefore x O) → ((O : Set) → In O second → ComesBefore y O) → In x (y ∷ second) → In y (x ∷ first) → x ≡ y
first-same x y first second f g here j = refl
first-same x y first second f g (there i) here = refl
first-same x y first second f g (there i) (there j) = absurd (one-before x y (f y j) (g x i))

in-order : (first second : List Set) → AreOrdered first → AreOrdered second → ((M : Set) → In M first → In M second) → ((M : Set) → In M second → In M first) → first ≡ second
in-order [] [] p q f g = refl
in-order [] (y ∷ second) p q f g = elim (g y here) [ ]
in-order (x ∷ first) [] p q f g = elim (f x here) [ ]
in-order (x ∷ first) (y ∷ second) p q f g =
    let e : x ≡ y = first-same x y first second p.0 q.0 (f x here) (g y here) in
    ap₂ (λ z zs. z ∷ zs) e
    (in-order first second p.1 q.1
    (λ M i. rest-in M x first second p.0 i (subst (λ (S : Set). In M (S ∷ second)) (sym e) (f M (there i))))
    (λ M i. rest-in M y second first q.0 i (subst (λ (S : Set). In M (S ∷ first)) e (g M (there i)))))

pub one_list : (B : ℕ → Proc) (P : Proc) (u : List Event) (first second : List Set) → AreAcceptances B P u first → AreAcceptances B P u second → first ≡ second
one_list B P u first second p q = in-order first second p.ordered q.ordered (in-other B P u first second p q) (in-other B P u second first q p)
