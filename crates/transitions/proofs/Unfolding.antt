-- How deep a process gets by a hidden step.
use Rattle.std.proofs.Common.{◌≡◌, ◌↔◌, ℕ, zero, suc, ◌+◌, ◌<◌, ◌≤◌, ◌⊎◌, inl, inr, max, min, refl, sym, ap, ◌∙◌, arith}
use Rattle.std.proofs.lemmas.Bool.{cases_lt}
use Rattle.term.specs.Proc.{Proc, stop, skip, prefix, ext, int, seq, par, hide, ren, intr, name}
use Rattle.term.specs.Steps.{Hid, h-int-l, h-int-r, h-ext-l, h-ext-r, h-seq, h-seq-t, h-par-l, h-par-r, h-par-tl, h-par-tr, h-hide, h-hide-a, h-ren, h-intr-l, h-intr-r, h-name}
use Rattle.term.specs.Sizes.{depth}
use Rattle.term.specs.Limits.{HasDeep, deepest_state}
use Rattle.targets.proofs.Depths.{act-depth, depth-positive}
use Rattle.transitions.specs.Unfolding.{beside, unfolded, capped}

-- ---- the depth of an operator over a deeper part
over : (p' p u q : ℕ) → p' ≤ max p u → suc (max p' q) ≤ max (suc (max p q)) (beside u q)
over p' p zero q h = omega arith
over p' p (suc u) q h = omega arith

over-alone : (p' p u : ℕ) → p' ≤ max p u → suc p' ≤ max (suc p) (beside u 0)
over-alone p' p zero h = omega arith
over-alone p' p (suc u) h = omega arith

some-beside : (u q : ℕ) → 0 < beside u q → (0 < u) × (beside u q ≡ suc (max u q))
some-beside zero q h = absurd (omega arith)
some-beside (suc u) q h = (omega arith, refl)

one-of : (a b : ℕ) → (max a b ≡ a) ⊎ (max a b ≡ b)
one-of a b = elim (cases_lt a b) [ inl h ↦ inr (omega arith) | inr h ↦ inl (omega arith) ]

module _ (B : ℕ → Proc) where
  -- a hidden step that puts no body in its name's place leads to no greater depth
  hid-depth : {P P' : Proc} → Hid B P P' → depth P' ≤ max (depth P) (unfolded B P)
  hid-depth h-int-l = omega arith
  hid-depth h-int-r = omega arith
  hid-depth (h-ext-l {P = P} {Q = Q} {P' = P'} d) = let k = over (depth P') (depth P) (unfolded B P) (depth Q) (hid-depth d) in omega arith
  hid-depth (h-ext-r {P = P} {Q = Q} {Q' = Q'} d) = let k = over (depth Q') (depth Q) (unfolded B Q) (depth P) (hid-depth d) in omega arith
  hid-depth (h-seq {P = P} {Q = Q} {P' = P'} d) = over (depth P') (depth P) (unfolded B P) (depth Q) (hid-depth d)
  hid-depth (h-seq-t t) = omega arith
  hid-depth (h-par-l {P = P} {Q = Q} {P' = P'} d) = let k = over (depth P') (depth P) (unfolded B P) (depth Q) (hid-depth d) in omega arith
  hid-depth (h-par-r {P = P} {Q = Q} {Q' = Q'} d) = let k = over (depth Q') (depth Q) (unfolded B Q) (depth P) (hid-depth d) in omega arith
  hid-depth (h-par-tl {P = P} o t) = let k = depth-positive P in omega arith
  hid-depth (h-par-tr {Q = Q} o t) = let k = depth-positive Q in omega arith
  hid-depth (h-hide {P = P} {P' = P'} d) = over-alone (depth P') (depth P) (unfolded B P) (hid-depth d)
  hid-depth (h-hide-a y d) = let k = act-depth d in omega arith
  hid-depth (h-ren {P = P} {P' = P'} d) = over-alone (depth P') (depth P) (unfolded B P) (hid-depth d)
  hid-depth (h-intr-l {P = P} {Q = Q} {P' = P'} d) = let k = over (depth P') (depth P) (unfolded B P) (depth Q) (hid-depth d) in omega arith
  hid-depth (h-intr-r {P = P} {Q = Q} {Q' = Q'} d) = let k = over (depth Q') (depth Q) (unfolded B Q) (depth P) (hid-depth d) in omega arith
  hid-depth (h-name {k = k} e) = let f = ap depth e in omega arith

  -- and one that does so leads to this depth
  abbrev Deepest : Proc → ℕ → Type 0
  Deepest P n = (Q : Proc) × Hid B P Q × (depth Q ≡ n)

  under : (P : Proc) (f : Proc → Proc) (R : Proc) (q n : ℕ) → (0 < unfolded B P → Deepest P (unfolded B P)) → ((P' : Proc) → Hid B P P' → Hid B R (f P')) → ((P' : Proc) → depth (f P') ≡ suc (max (depth P') q)) → n ≡ beside (unfolded B P) q → 0 < n → Deepest R n
  under P f R q n known step deep e h =
      let (some, is) = some-beside (unfolded B P) q (omega (arith, e, h)) in
      let (P', d, g) = known some in
      (f P', step P' d, deep P' ∙ ap (λ (k : ℕ). suc (max k q)) g ∙ sym is ∙ sym e)

  beside-either : (P Q R : Proc) (f g : Proc → Proc) → (0 < unfolded B P → Deepest P (unfolded B P)) → (0 < unfolded B Q → Deepest Q (unfolded B Q)) → ((P' : Proc) → Hid B P P' → Hid B R (f P')) → ((Q' : Proc) → Hid B Q Q' → Hid B R (g Q')) → ((P' : Proc) → depth (f P') ≡ suc (max (depth P') (depth Q))) → ((Q' : Proc) → depth (g Q') ≡ suc (max (depth Q') (depth P))) → 0 < max (beside (unfolded B P) (depth Q)) (beside (unfolded B Q) (depth P)) → Deepest R (max (beside (unfolded B P) (depth Q)) (beside (unfolded B Q) (depth P)))
  beside-either P Q R f g a b s t x y h =
      elim (one-of (beside (unfolded B P) (depth Q)) (beside (unfolded B Q) (depth P))) [
        | inl e ↦ under P f R (depth Q) (max (beside (unfolded B P) (depth Q)) (beside (unfolded B Q) (depth P))) a s x e h
        | inr e ↦ under Q g R (depth P) (max (beside (unfolded B P) (depth Q)) (beside (unfolded B Q) (depth P))) b t y e h
      ]

  deepest : (P : Proc) → 0 < unfolded B P → Deepest P (unfolded B P)
  deepest stop h = absurd (omega arith)
  deepest skip h = absurd (omega arith)
  deepest (prefix a P) h = absurd (omega arith)
  deepest (ext P Q) h = beside-either P Q (ext P Q) (λ p. ext p Q) (λ q. ext P q) (deepest P) (deepest Q) (λ P' d. h-ext-l d) (λ Q' d. h-ext-r d) (λ P'. refl) (λ Q'. omega arith) h
  deepest (int P Q) h = absurd (omega arith)
  deepest (seq P Q) h = under P (λ p. seq p Q) (seq P Q) (depth Q) (beside (unfolded B P) (depth Q)) (deepest P) (λ P' d. h-seq d) (λ P'. refl) refl h
  deepest (par A P Q) h = beside-either P Q (par A P Q) (λ p. par A p Q) (λ q. par A P q) (deepest P) (deepest Q) (λ P' d. h-par-l d) (λ Q' d. h-par-r d) (λ P'. refl) (λ Q'. omega arith) h
  deepest (hide A P) h = under P (hide A) (hide A P) 0 (beside (unfolded B P) 0) (deepest P) (λ P' d. h-hide d) (λ P'. omega arith) refl h
  deepest (ren R P) h = under P (ren R) (ren R P) 0 (beside (unfolded B P) 0) (deepest P) (λ P' d. h-ren d) (λ P'. omega arith) refl h
  deepest (intr P Q) h = beside-either P Q (intr P Q) (λ p. intr p Q) (λ q. intr P q) (deepest P) (deepest Q) (λ P' d. h-intr-l d) (λ Q' d. h-intr-r d) (λ P'. refl) (λ Q'. omega arith) h
  deepest (name k) h = (B k, h-name refl, refl)

  -- so it tells whether a hidden step leads too deep
  pub deep-says : (P : Proc) (n : ℕ) → depth P ≤ deepest_state → n ≡ capped (unfolded B P) → (deepest_state < n) ↔ HasDeep (Hid B P)
  deep-says P n shallow e = (
    (λ h. let (Q, d, f) = deepest P (omega arith) in (Q, d, omega arith)),
    (λ (Q, d, h). let k = hid-depth d in omega arith),
  )

-- ---- with numbers of 32 bits
pub capped-beside : (n m a b r : ℕ) → a ≡ capped n → b ≡ capped m → (a ≡ 0 → r ≡ 0) → (0 < a → r ≡ min (max a b + 1) 4294967295) → r ≡ capped (beside n m)
capped-beside zero m a b r e f g h = g (omega arith)
capped-beside (suc n) m a b r e f g h = let k = h (omega arith) in omega arith

pub capped-max : (n m a b : ℕ) → a ≡ capped n → b ≡ capped m → max a b ≡ capped (max n m)
capped-max n m a b e f = omega arith
