-- Which events a renaming takes to another.
use Rattle.std.proofs.Common.{◌≡◌, ℕ, ◌+◌, ◌<◌, ◌≤◌, Bool, true, false, ◌⊎◌, inl, inr, List, [], ◌∷◌, ◌++◌, length, take, get_or, nat_eq, refl, sym, subst, ap, ◌∙◌}
use Rattle.std.proofs.lemmas.Bool.{eqb-true, eq-eqb, ne_eqb}
use Rattle.std.proofs.lemmas.List.{append_assoc, append-nil, take_more, take_all}
use Rattle.term.specs.Traces.{Pairs, partners, or_itself, images, In, here, there}
use Rattle.term.proofs.Bools.{not-both}
use Rattle.targets.specs.Targets.{origins, sources, where_, is_empty}
use Rattle.targets.proofs.Members.{In-append_l, In-append_r, In-first, In-of, append-In, where_-In, In-where_}

partners-origins : (R : Pairs) (a b : ℕ) → In b (partners R a) → In a (origins R b)
partners-origins [] a b i = elim i [ ]
partners-origins (p ∷ R) a b i = go (partners-origins R a b) (nat_eq p.0 a) refl i
  where
    go : (In b (partners R a) → In a (origins R b)) → (v : Bool) → nat_eq p.0 a ≡ v → In b (elim v [ true ↦ p.1 ∷ partners R a | false ↦ partners R a ]) → In a (where_ (nat_eq p.1 b) (p.0 ∷ []) ++ origins R b)
    go ih true e i =
        elim (In-first i) [
          | inl q ↦ In-append_l (In-where_ (nat_eq p.1 b) (p.0 ∷ []) a (eq-eqb p.1 b (sym q)) (In-of (sym (eqb-true p.0 a e)))) (origins R b)
          | inr j ↦ In-append_r (where_ (nat_eq p.1 b) (p.0 ∷ [])) (ih j)
        ]
    go ih false e i = In-append_r (where_ (nat_eq p.1 b) (p.0 ∷ [])) (ih i)

origins-partners : (R : Pairs) (a b : ℕ) → In a (origins R b) → In b (partners R a)
origins-partners [] a b i = elim i [ ]
origins-partners (p ∷ R) a b i = go (origins-partners R a b) (nat_eq p.0 a) refl
  where
    one : In a (p.0 ∷ []) → a ≡ p.0
    one j = elim (In-first j) [ inl q ↦ q | inr k ↦ elim k [ ] ]

    go : (In a (origins R b) → In b (partners R a)) → (v : Bool) → nat_eq p.0 a ≡ v → In b (elim v [ true ↦ p.1 ∷ partners R a | false ↦ partners R a ])
    go ih true e =
        elim (append-In (where_ (nat_eq p.1 b) (p.0 ∷ [])) (origins R b) a i) [
          | inl j ↦ let (t, k) = where_-In (nat_eq p.1 b) (p.0 ∷ []) a j in In-of (sym (eqb-true p.1 b t))
          | inr j ↦ there (ih j)
        ]
    go ih false e =
        elim (append-In (where_ (nat_eq p.1 b) (p.0 ∷ [])) (origins R b) a i) [
          | inl j ↦ let (t, k) = where_-In (nat_eq p.1 b) (p.0 ∷ []) a j in absurd (not-both (eq-eqb p.0 a (sym (one k))) e)
          | inr j ↦ ih j
        ]

itself_or : (bs : List ℕ) (a b : ℕ) → In b (or_itself bs a) → (In b bs ⊎ ((bs ≡ []) × (b ≡ a)))
itself_or [] a b i = elim (In-first i) [ inl e ↦ inr (refl, e) | inr j ↦ elim j [ ] ]
itself_or (c ∷ bs) a b i = inl i

In-or_itself : {b : ℕ} {bs : List ℕ} → In b bs → (a : ℕ) → In b (or_itself bs a)
In-or_itself here a = here
In-or_itself (there i) a = there i

empty-is : (bs : List ℕ) → is_empty bs ≡ true → bs ≡ []
empty-is [] e = refl
empty-is (b ∷ bs) e = absurd (cc)

pub image-source : (R : Pairs) (a b : ℕ) → In b (images R a) → In a (sources R b)
image-source R a b i =
    elim (itself_or (partners R a) a b i) [
      | inl j ↦ In-append_l (partners-origins R a b j) (where_ (is_empty (partners R b)) (b ∷ []))
      | inr p ↦ In-append_r (origins R b) (In-where_ (is_empty (partners R b)) (b ∷ []) a (ap is_empty (ap (partners R) p.1 ∙ p.0)) (In-of (sym p.1)))
    ]

pub source-image : (R : Pairs) (a b : ℕ) → In a (sources R b) → In b (images R a)
source-image R a b i =
    elim (append-In (origins R b) (where_ (is_empty (partners R b)) (b ∷ [])) a i) [
      | inl j ↦ In-or_itself (origins-partners R a b j) a
      | inr j ↦
          let (t, k) = where_-In (is_empty (partners R b)) (b ∷ []) a j in
          let e : a ≡ b = elim (In-first k) [ inl q ↦ q | inr l ↦ elim l [ ] ] in
          let n : partners R a ≡ [] = ap (partners R) e ∙ empty-is (partners R b) t in
          subst (λ l. In b (or_itself l a)) (sym n) (In-of (sym e))
    ]

-- ---- the pairs, one further
origins_push : (R : Pairs) (p : ℕ × ℕ) (b : ℕ) → origins (R ++ p ∷ []) b ≡ origins R b ++ where_ (nat_eq p.1 b) (p.0 ∷ [])
origins_push [] p b = append-nil (where_ (nat_eq p.1 b) (p.0 ∷ []))
origins_push (q ∷ R) p b = rw (origins_push R p b) (sym (append_assoc (where_ (nat_eq q.1 b) (q.0 ∷ [])) (origins R b) (where_ (nat_eq p.1 b) (p.0 ∷ []))))

module _ (R : Pairs) (i b : ℕ) (d : ℕ × ℕ) (h : i < length R) where
  pub origins_yes : (get_or R i d).1 ≡ b → origins (take (i + 1) R) b ≡ origins (take i R) b ++ (get_or R i d).0 ∷ []
  origins_yes e = rw (take_more R i d h, origins_push (take i R) (get_or R i d) b, eq-eqb ((get_or R i d).1) b e) refl

  pub origins_no : ((get_or R i d).1 ≡ b → ⊥) → origins (take (i + 1) R) b ≡ origins (take i R) b
  origins_no e = rw (take_more R i d h, origins_push (take i R) (get_or R i d) b, ne_eqb ((get_or R i d).1) b e) (append-nil (origins (take i R) b))

-- at the end of the loop
pub sources_yes : (R : Pairs) (i b : ℕ) → length R ≤ i → is_empty (partners R b) ≡ true → origins (take i R) b ++ b ∷ [] ≡ sources R b
sources_yes R i b h e = rw (take_all i R h, e) refl

pub sources_no : (R : Pairs) (i b : ℕ) → length R ≤ i → is_empty (partners R b) ≡ false → origins (take i R) b ≡ sources R b
sources_no R i b h e = rw (take_all i R h, e) (sym (append-nil (origins R b)))
