-- Lists in order: items put in their place, and what stands there.
use Rattle.std.proofs.Common.{◌≡◌, ℕ, zero, suc, ◌+◌, ◌<◌, ◌≤◌, arith, List, [], ◌∷◌, ◌⊎◌, inl, inr, refl, sym, ap, subst, ◌∙◌}
use Rattle.std.specs.List.{flat_map, range_with_len}
use Rattle.std.specs.Ordering.{ordering_reverse, match_ordering}
use Rattle.std.specs.Cmp.{IsTotalOrder}
use Rattle.std.specs.BTreeSet.{insert_key}
use Rattle.std.specs.declared.cmp.Ordering.{Ordering}
use Rattle.std.specs.declared.cmp.Ordering.TheVariants.{Less, Equal, Greater}
use Rattle.alphabet.specs.Elements.{In, here, there, Distinct}
use Rattle.alphabet.proofs.Lists.{In-append_left, In-append_right}

pub in_flat : {A B : Type 0} (f : A → List B) (xs : List A) (x : A) (y : B) → In x xs → In y (f x) → In y (flat_map f xs)
in_flat f [] x y i j = elim i [ ]
in_flat f (z ∷ xs) x y here j = In-append_left (flat_map f xs) j
in_flat f (z ∷ xs) x y (there i) j = In-append_right (f z) (flat_map f xs) (in_flat f xs x y i j)

-- ---- numbers in a range

pub in_range : (k start n : ℕ) → In k (range_with_len start n) → (start ≤ k) × (k < start + n)
in_range k start zero i = elim i [ ]
in_range k start (suc n) i = by i (λ j. in_range k (start + 1) n j)
  where
    by : {j : ℕ} → In j (start ∷ range_with_len (start + 1) n) → (In j (range_with_len (start + 1) n) → (start + 1 ≤ j) × (j < (start + 1) + n)) → (start ≤ j) × (j < start + suc n)
    by here f = (omega arith, omega arith)
    by (there j) f = let r = f j in (omega (arith, r.0), omega (arith, r.1))

pub range_in : (k start n : ℕ) → start ≤ k → k < start + n → In k (range_with_len start n)
range_in k start zero h l = absurd (omega (arith, h, l))
range_in k start (suc n) h l = split k start h (λ e. subst (λ j. In k (j ∷ range_with_len (start + 1) n)) e here) (λ m. there (range_in k (start + 1) n (omega (arith, m)) (omega (arith, l))))
  where
    split : {P : Type 0} (k start : ℕ) → start ≤ k → (k ≡ start → P) → (start < k → P) → P
    split zero zero h f g = f refl
    split (suc k) zero h f g = g (omega arith)
    split zero (suc start) h f g = absurd (omega (arith, h))
    split (suc k) (suc start) h f g = split k start (omega (arith, h)) (λ e. f (ap suc e)) (λ l. g (omega (arith, l)))

-- ---- orders

module _ {K : Type 0} (R : K → K → Ordering) (total : IsTotalOrder R) where
  -- each is above it
  abbrev pub Above : K → List K → Type 0
  Above k [] = Unit {0}
  Above k (x ∷ xs) = (R k x ≡ Less) × Above k xs

  -- each is below those after it
  abbrev pub Rises : List K → Type 0
  Rises [] = Unit {0}
  Rises (x ∷ xs) = Above x xs × Rises xs

  above_all : (k x : K) (xs : List K) → R k x ≡ Less → Above x xs → Above k xs
  above_all k x [] e h = tt
  above_all k x (y ∷ xs) e h = (total.trans k x y e h.0, above_all k x xs e h.1)

  above_insert : (x k : K) (ks : List K) → Above x ks → R x k ≡ Less → Above x (insert_key R ks k)
  above_insert x k [] h e = (e, tt)
  above_insert x k (y ∷ ys) h e = by (R k y) (above_insert x k ys h.1 e)
    where
      by : (o : Ordering) → Above x (insert_key R ys k) → Above x (match_ordering o (k ∷ y ∷ ys) (y ∷ ys) (y ∷ insert_key R ys k))
      by Less rec = (e, h)
      by Equal rec = h
      by Greater rec = (h.0, rec)

  pub rises_insert : (ks : List K) (k : K) → Rises ks → Rises (insert_key R ks k)
  rises_insert [] k h = (tt, tt)
  rises_insert (x ∷ xs) k h = by (R k x) refl (rises_insert xs k h.1)
    where
      by : (o : Ordering) → R k x ≡ o → Rises (insert_key R xs k) → Rises (match_ordering o (k ∷ x ∷ xs) (x ∷ xs) (x ∷ insert_key R xs k))
      by Less e rec = ((e, above_all k x xs e h.0), h)
      by Equal e rec = h
      by Greater e rec = (above_insert x k xs h.0 (total.antisymm x k ∙ ap ordering_reverse e), rec)

  pub insert_front : (k : K) (ks : List K) → Above k ks → insert_key R ks k ≡ k ∷ ks
  insert_front k [] h = refl
  insert_front k (x ∷ xs) h = ap (λ o. match_ordering o (k ∷ x ∷ xs) (x ∷ xs) (x ∷ insert_key R xs k)) h.0

  pub in_kept : (x k : K) (ks : List K) → In x ks → In x (insert_key R ks k)
  in_kept x k [] i = elim i [ ]
  in_kept x k (y ∷ ys) here = by (R k y)
    where
      by : (o : Ordering) → In y (match_ordering o (k ∷ y ∷ ys) (y ∷ ys) (y ∷ insert_key R ys k))
      by Less = there here
      by Equal = here
      by Greater = here
  in_kept x k (y ∷ ys) (there i) = by (R k y) (in_kept x k ys i)
    where
      by : (o : Ordering) → In x (insert_key R ys k) → In x (match_ordering o (k ∷ y ∷ ys) (y ∷ ys) (y ∷ insert_key R ys k))
      by Less rec = there (there i)
      by Equal rec = there i
      by Greater rec = there rec

  pub in_from : (x k : K) (ks : List K) → In x (insert_key R ks k) → (x ≡ k) ⊎ In x ks
  in_from x k [] i = only i
    where
      only : {z : K} → In z (k ∷ []) → (z ≡ k) ⊎ In z []
      only here = inl refl
      only (there j) = elim j [ ]
  in_from x k (y ∷ ys) i = by (R k y) i (λ j. in_from x k ys j)
    where
      first : {z : K} {zs : List K} → In z (k ∷ zs) → (z ≡ k) ⊎ In z zs
      first here = inl refl
      first (there j) = inr j

      later : {z : K} {zs : List K} → In z (y ∷ zs) → (In z zs → (z ≡ k) ⊎ In z ys) → (z ≡ k) ⊎ In z (y ∷ ys)
      later here f = inr here
      later (there j) f = elim (f j) [ inl e ↦ inl e | inr l ↦ inr (there l) ]

      by : (o : Ordering) → In x (match_ordering o (k ∷ y ∷ ys) (y ∷ ys) (y ∷ insert_key R ys k)) → (In x (insert_key R ys k) → (x ≡ k) ⊎ In x ys) → (x ≡ k) ⊎ In x (y ∷ ys)
      by Less j f = first j
      by Equal j f = inr j
      by Greater j f = later j f

  not_itself : (k : K) → R k k ≡ Less → ⊥
  not_itself k e = no (R k k) e (total.antisymm k k)
    where
      no : (o : Ordering) → o ≡ Less → o ≡ ordering_reverse o → ⊥
      no Less e f = cc
      no Equal e f = cc
      no Greater e f = cc

  above_not : (k : K) (ks : List K) → Above k ks → In k ks → ⊥
  above_not k [] h i = elim i [ ]
  above_not k (x ∷ xs) h here = not_itself k h.0
  above_not k (x ∷ xs) h (there i) = above_not k xs h.1 i

  pub rises_distinct : (ks : List K) → Rises ks → Distinct ks
  rises_distinct [] h = tt
  rises_distinct (k ∷ ks) h = (above_not k ks h.0, rises_distinct ks h.1)

  module _ (equal : (j k : K) → R j k ≡ Equal → j ≡ k) where
    pub in_put : (k : K) (ks : List K) → In k (insert_key R ks k)
    in_put k [] = here
    in_put k (x ∷ xs) = by (R k x) refl (in_put k xs)
      where
        by : (o : Ordering) → R k x ≡ o → In k (insert_key R xs k) → In k (match_ordering o (k ∷ x ∷ xs) (x ∷ xs) (x ∷ insert_key R xs k))
        by Less e rec = here
        by Equal e rec = subst (λ y. In y (x ∷ xs)) (sym (equal k x e)) here
        by Greater e rec = there rec
