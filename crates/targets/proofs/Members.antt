-- What stands in lists.
use Rattle.std.proofs.Common.{◌≡◌, Bool, true, false, ◌⊎◌, inl, inr, List, [], ◌∷◌, ◌++◌, map, refl, sym, subst}
use Rattle.term.specs.Traces.{In, here, there}
use Rattle.term.specs.Proc.{Proc}
use Rattle.targets.specs.Targets.{pairs_of, where_}

module _ {A : Type 0} where
  pub In-append_l : {x : A} {xs : List A} → In x xs → (ys : List A) → In x (xs ++ ys)
  In-append_l here ys = here
  In-append_l (there i) ys = there (In-append_l i ys)

  pub In-append_r : (xs : List A) {x : A} {ys : List A} → In x ys → In x (xs ++ ys)
  In-append_r [] i = i
  In-append_r (z ∷ xs) i = there (In-append_r xs i)

  pub In-first : {x y : A} {xs : List A} → In x (y ∷ xs) → (x ≡ y) ⊎ In x xs
  In-first here = inl refl
  In-first (there i) = inr i

  pub In-of : {x y : A} {xs : List A} → x ≡ y → In x (y ∷ xs)
  In-of {y} {xs} e = subst (λ v. In v (y ∷ xs)) (sym e) here

  pub append-In : (xs ys : List A) (x : A) → In x (xs ++ ys) → In x xs ⊎ In x ys
  append-In [] ys x i = inr i
  append-In (z ∷ xs) ys x i =
      elim (In-first i) [
        | inl e ↦ inl (In-of e)
        | inr j ↦ elim (append-In xs ys x j) [ inl k ↦ inl (there k) | inr k ↦ inr k ]
      ]

  pub where_-In : (b : Bool) (xs : List A) (x : A) → In x (where_ b xs) → (b ≡ true) × In x xs
  where_-In true xs x i = (refl, i)
  where_-In false xs x i = elim i [ ]

  pub In-where_ : (b : Bool) (xs : List A) (x : A) → b ≡ true → In x xs → In x (where_ b xs)
  In-where_ true xs x e i = i
  In-where_ false xs x e i = absurd (cc)

module _ (f : Proc → Proc) where
  pub In-map : {x : Proc} {xs : List Proc} → In x xs → In (f x) (map f xs)
  In-map here = here
  In-map (there i) = there (In-map i)

  pub map-In : (xs : List Proc) (y : Proc) → In y (map f xs) → (x : Proc) × In x xs × (f x ≡ y)
  map-In [] y i = elim i [ ]
  map-In (x ∷ xs) y i =
      elim (In-first i) [
        | inl e ↦ (x, here, sym e)
        | inr j ↦ let (z, k, e) = map-In xs y j in (z, there k, e)
      ]

module _ (f : Proc → Proc → Proc) where
  pub In-pairs : {x y : Proc} {xs : List Proc} → In x xs → (ys : List Proc) → In y ys → In (f x y) (pairs_of f xs ys)
  In-pairs (here {x = x} {xs = xs}) ys j = In-append_l (In-map (f x) j) (pairs_of f xs ys)
  In-pairs (there {y = z} i) ys j = In-append_r (map (f z) ys) (In-pairs i ys j)

  pub pairs-In : (xs ys : List Proc) (z : Proc) → In z (pairs_of f xs ys) → (x y : Proc) × In x xs × In y ys × (f x y ≡ z)
  pairs-In [] ys z i = elim i [ ]
  pairs-In (x ∷ xs) ys z i =
      elim (append-In (map (f x) ys) (pairs_of f xs ys) z i) [
        | inl j ↦ let (y, k, e) = map-In (f x) ys z j in (x, y, here, k, e)
        | inr j ↦ let (x', y, k, l, e) = pairs-In xs ys z j in (x', y, there k, l, e)
      ]
