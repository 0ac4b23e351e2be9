-- Lists that are joined without repeats, or filled as far as a bound.
use Rattle.std.proofs.Common.{◌≡◌, ◌↔◌, ℕ, ◌<◌, ◌⊎◌, inl, inr, List, [], ◌∷◌, ◌++◌, length, refl, sym, subst}
use Rattle.term.specs.Traces.{In}
use Rattle.term.specs.Proc.{Proc}
use Rattle.term.specs.Limits.{Terms, Distinct}
use Rattle.targets.proofs.Members.{append-In, In-append_l, In-append_r}
use Rattle.targets.specs.Cuts.{CutOf}
use Rattle.targets.specs.Among.{InEither, Joined}
use Rattle.targets.proofs.Cutting.{nothing, only, distinct-push, distinct-front, cut-all, cut-join, cut-to}

-- ---- one list after the other
module _ (n : ℕ) (l : List Proc) where
  pub joined-first : (qs : List Proc) → l ≡ [] → Joined n l qs qs
  joined-first qs e d f =
      record {
        once = f;
        only = λ Q i. inr i;
        all = inr (λ Q s. elim s [ inl i ↦ absurd (nothing i e) | inr i ↦ i ]);
      }

  pub joined-none : Joined n l [] l
  joined-none d e = record { once = d; only = λ Q i. inl i; all = inr (λ Q s. elim s [ inl i ↦ i | inr i ↦ elim i [ ] ]) }

  pub joined-new : (P : Proc) → (In P l → ⊥) → Joined n l (P ∷ []) (l ++ P ∷ [])
  joined-new P h d e =
      record {
        once = distinct-push l P d h;
        only = λ Q i. append-In l (P ∷ []) Q i;
        all = inr (λ Q s. elim s [ inl i ↦ In-append_l i (P ∷ []) | inr i ↦ In-append_r l i ]);
      }

  pub joined-old : (P : Proc) → In P l → Joined n l (P ∷ []) l
  joined-old P h d e =
      record {
        once = d;
        only = λ Q i. inl i;
        all = inr (λ Q s. elim s [ inl i ↦ i | inr i ↦ subst (λ v. In v l) (sym (only i refl)) h ]);
      }

  pub joined-full : (ps : List Proc) → n < length l → Joined n l ps l
  joined-full ps h d e = record { once = d; only = λ Q i. inl i; all = inl h }

  pub joined-more : (ps m k : List Proc) (P : Proc) → Joined n l ps m → Joined n m (P ∷ []) k → Joined n l (ps ++ P ∷ []) k
  joined-more ps m k P h g d e =
      let c = h d (distinct-front ps (P ∷ []) e) in
      let one : Distinct (P ∷ []) = ((λ i. elim i [ ]), tt) in
      cut-to (λ Q. InEither l ps Q ⊎ In Q (P ∷ [])) (InEither l (ps ++ P ∷ [])) n k same
      (cut-join (InEither l ps) (λ Q. In Q (P ∷ [])) n m (P ∷ []) k c (cut-all n (P ∷ []) one) (g c.once one))
    where
      same : (Q : Proc) → (InEither l ps Q ⊎ In Q (P ∷ [])) ↔ InEither l (ps ++ P ∷ []) Q
      same Q = (
        (λ s. elim s [
          | inl t ↦ elim t [ inl i ↦ inl i | inr i ↦ inr (In-append_l i (P ∷ [])) ]
          | inr i ↦ inr (In-append_r ps i)
        ]),
        (λ s. elim s [
          | inl i ↦ inl (inl i)
          | inr i ↦ elim (append-In ps (P ∷ []) Q i) [ inl j ↦ inl (inr j) | inr j ↦ inr j ]
        ]),
      )

-- of two sets together, where their cuts were joined
pub joined-cut : (S T : Terms) (n : ℕ) (l r t : List Proc) → CutOf S n l → CutOf T n r → Joined n l r t → CutOf (λ Q. S Q ⊎ T Q) n t
joined-cut S T n l r t c d j = cut-join S T n l r t c d (j c.once d.once)
