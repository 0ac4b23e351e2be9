-- The events of a set that are below a number, as a list that a loop makes.
use Rattle.std.proofs.Common.{◌≡◌, ℕ, ◌+◌, ◌<◌, ◌⊎◌, inl, inr, true, false, refl, ap, arith, List, [], ◌∷◌, ◌++◌, sym, subst}
use Rattle.std.proofs.lemmas.Bool.{cases_lt}
use Rattle.alphabet.specs.EventSets.{Set, has}
use Rattle.term.specs.Traces.{In, here, there}

-- ---- members
in-append : {X : Type 0} (xs : List X) (y : X) {x : X} → In x (xs ++ y ∷ []) → In x xs ⊎ (x ≡ y)
in-append [] y here = inr refl
in-append [] y (there i) = elim i [ ]
in-append (z ∷ zs) y here = inl here
in-append (z ∷ zs) y (there i) = elim (in-append zs y i) [ inl j ↦ inl (there j) | inr e ↦ inr e ]

append-in : {X : Type 0} (xs : List X) (y : X) {x : X} → In x xs → In x (xs ++ y ∷ [])
append-in (z ∷ zs) y here = here
append-in (z ∷ zs) y (there i) = there (append-in zs y i)
append-in [] y i = elim i [ ]

append-last : {X : Type 0} (xs : List X) (y : X) → In y (xs ++ y ∷ [])
append-last [] y = here
append-last (z ∷ zs) y = there (append-last zs y)

-- ---- the events of a set that are below a number
module _ (A : Set) (i : ℕ) (old new : List ℕ) (only : (a : ℕ) → In a old → has A a ≡ true) (all : (a : ℕ) → a < i → has A a ≡ true → In a old) where
  pub events-yes : has A i ≡ true → new ≡ old ++ i ∷ [] → ((a : ℕ) → In a new → has A a ≡ true) × ((a : ℕ) → a < i + 1 → has A a ≡ true → In a new)
  events-yes h e = (
    (λ a j. elim (in-append old i (subst (λ v. In a v) e j)) [ inl k ↦ only a k | inr k ↦ subst (λ v. has A v ≡ true) (sym k) h ]),
    (λ a l k. subst (λ v. In a v) (sym e) (elim (cases_lt a i) [
      | inl m ↦ append-in old i (all a m k)
      | inr m ↦ let s : i ≡ a = omega arith in subst (λ v. In v (old ++ i ∷ [])) s (append-last old i)
    ])),
  )

  pub events-no : has A i ≡ false → new ≡ old → ((a : ℕ) → In a new → has A a ≡ true) × ((a : ℕ) → a < i + 1 → has A a ≡ true → In a new)
  events-no h e = (
    (λ a j. only a (subst (λ v. In a v) e j)),
    (λ a l k. subst (λ v. In a v) (sym e) (elim (cases_lt a i) [
      | inl m ↦ all a m k
      | inr m ↦ let s : a ≡ i = omega arith in let z : has A a ≡ has A i = ap (has A) s in absurd (cc)
    ])),
  )
