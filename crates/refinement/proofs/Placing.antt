-- What stands at a place of a list is found by its number, one more each time.
use Rattle.std.proofs.Common.{◌≡◌, ℕ, ◌<◌, Bool, true, false, cond, nat_eq, Option, None, Some, List, [], ◌∷◌, ◌++◌, length, get_or, refl, sym, ap, ◌∙◌, subst, arith, length-append, inl, inr}
use Rattle.std.proofs.lemmas.Bool.{cases_lt, eqb-true}
use Rattle.std.proofs.lemmas.List.{get_or_append_left}
use Rattle.std.proofs.Math.Seq.{get_or-append_seam}
use Rattle.std.specs.Map.{lookup}
use Rattle.indexmap.specs.IndexMap.{IndexMap, Updates}
use Rattle.refinement.specs.Places.{ArePlaced}

module _ {X : Type 0} (key : X → ℕ) (d : X) where
  pub none-placed : (es : List (ℕ × ℕ)) → ArePlaced key d [] es
  none-placed es i l = absurd (omega (arith, l))

  module _ (xs : List X) where
    abbrev at : ℕ → X
    at i = get_or xs i d

    module _ (es : List (ℕ × ℕ)) (all : ArePlaced key d xs es) where
      pub place-is : (k i j : ℕ) → lookup (nat_eq k) es ≡ Some i → j < length xs → key (at j) ≡ k → i ≡ j
      place-is k i j f l e =
          let g : Some i ≡ Some j = sym f ∙ ap (λ (n : ℕ). lookup (nat_eq n) es) (sym e) ∙ all j l in
          cc

      pub place-none : (k j : ℕ) → lookup (nat_eq k) es ≡ None → j < length xs → key (at j) ≡ k → ⊥
      place-none k j f l e =
          let g : lookup (nat_eq k) es ≡ Some j = ap (λ (n : ℕ). lookup (nat_eq n) es) (sym e) ∙ all j l in
          cc

      -- different places have different numbers
      pub places-differ : (i j : ℕ) → i < j → j < length xs → key (at i) ≡ key (at j) → ⊥
      places-differ i j m l e =
          let f : i ≡ j = place-is (key (at j)) i j (ap (λ (n : ℕ). lookup (nat_eq n) es) (sym e) ∙ all i (omega (arith, m, l))) l refl in
          absurd (omega (arith, f, m))

    module _ {S : Type 0} (m m' : IndexMap ℕ ℕ S) (x : X) (all : ArePlaced key d xs m.entries) (fresh : (j : ℕ) → j < length xs → key (at j) ≡ key x → ⊥) (u : Updates nat_eq m m' (key x) (Some (length xs))) where
      abbrev more : List X
      more = xs ++ x ∷ []

      before : (i : ℕ) → i < length xs → lookup (nat_eq (key (at i))) m'.entries ≡ Some i
      before i l = by (nat_eq (key x) (key (at i))) refl
        where
          by : (b : Bool) → nat_eq (key x) (key (at i)) ≡ b → lookup (nat_eq (key (at i))) m'.entries ≡ Some i
          by true q = absurd (fresh i l (sym (eqb-true (key x) (key (at i)) q)))
          by false q = u.0 (key (at i)) ∙ ap (λ (b : Bool). cond b (Some (length xs)) (lookup (nat_eq (key (at i))) m.entries)) q ∙ all i l

      pub placed-more : ArePlaced key d more m'.entries
      placed-more i l =
          elim (cases_lt i (length xs)) [
            | inl h ↦ subst (λ (y : X). lookup (nat_eq (key y)) m'.entries ≡ Some i) (sym (get_or_append_left xs (x ∷ []) d i h)) (before i h)
            | inr h ↦
                let e : i ≡ length xs = omega (arith, h, l, length-append xs (x ∷ [])) in
                subst (λ (n : ℕ). lookup (nat_eq (key (get_or more n d))) m'.entries ≡ Some n) (sym e)
                (subst (λ (y : X). lookup (nat_eq (key y)) m'.entries ≡ Some (length xs)) (sym (get_or-append_seam xs x [] d)) (u.1))
          ]
