-- The targets of each form, told by the targets of its parts.
use Rattle.std.proofs.Common.{◌≡◌, ◌↔◌, ℕ, ◌⊎◌, inl, inr, Bool, true, false, not, ◌&&◌, refl, sym, ap, ◌∙◌, subst}
use Rattle.alphabet.specs.EventSets.{Set, has}
use Rattle.term.specs.Traces.{Pairs}
use Rattle.term.specs.Proc.{Proc, skip, ext, int, seq, par, hide, ren, intr, name}
use Rattle.term.specs.Steps.{is_skip, Ticks, Act, a-par-l, a-par-r, a-par-b, Hid, h-int-l, h-int-r, h-ext-l, h-ext-r, h-seq, h-seq-t, h-par-l, h-par-r, h-par-tl, h-par-tr, h-hide, h-hide-a, h-ren, h-intr-l, h-intr-r, h-name}
use Rattle.targets.specs.Among.{ActsIn, Joint}
use Rattle.targets.proofs.Cutting.{Image}

-- ---- a step with an event, backwards
pub par-act : {A : Set} {P Q R : Proc} {a : ℕ} → Act (par A P Q) a R → ((has A a ≡ false) × (Image (λ p. par A p Q) (Act P a) R ⊎ Image (λ q. par A P q) (Act Q a) R)) ⊎ ((has A a ≡ true) × Joint A P Q a R)
par-act (a-par-l {P' = P'} n d) = inl (n, inl (P', d, refl))
par-act (a-par-r {Q' = Q'} n d) = inl (n, inr (Q', d, refl))
par-act (a-par-b {P' = P'} {Q' = Q'} y d e) = inr (y, (P', Q', d, e, refl))

pub minus-parts : (v b c : Bool) → v ≡ (b && not c) → v ≡ true → (b ≡ true) × (c ≡ false)
minus-parts v true true e h = absurd (cc)
minus-parts v true false e h = (refl, refl)
minus-parts v false c e h = absurd (cc)

pub minus-whole : (v b c : Bool) → v ≡ (b && not c) → b ≡ true → c ≡ false → v ≡ true
minus-whole v true true e h k = absurd (cc)
minus-whole v true false e h k = e
minus-whole v false c e h k = absurd (cc)

-- ---- hidden steps
-- Q or a part of it that becomes SKIP
abbrev pub OrEnd : (Proc → Type 0) → Proc → Proc → Type 0
OrEnd S P Q = S Q ⊎ ((Q ≡ skip) × ((is_skip P ≡ false) × Ticks P))

module _ (B : ℕ → Proc) where
  pub ext-hids : (P Q R : Proc) → (Image (λ p. ext p Q) (Hid B P) R ⊎ Image (λ q. ext P q) (Hid B Q) R) ↔ Hid B (ext P Q) R
  ext-hids P Q R = (
    (λ s. elim s [
      | inl (P', d, e) ↦ subst (Hid B (ext P Q)) (sym e) (h-ext-l d)
      | inr (Q', d, e) ↦ subst (Hid B (ext P Q)) (sym e) (h-ext-r d)
    ]),
    back,
  )
    where
      back : {P Q R : Proc} → Hid B (ext P Q) R → Image (λ p. ext p Q) (Hid B P) R ⊎ Image (λ q. ext P q) (Hid B Q) R
      back (h-ext-l {P' = P'} d) = inl (P', d, refl)
      back (h-ext-r {Q' = Q'} d) = inr (Q', d, refl)

  pub intr-hids : (P Q R : Proc) → (Image (λ p. intr p Q) (Hid B P) R ⊎ Image (λ q. intr P q) (Hid B Q) R) ↔ Hid B (intr P Q) R
  intr-hids P Q R = (
    (λ s. elim s [
      | inl (P', d, e) ↦ subst (Hid B (intr P Q)) (sym e) (h-intr-l d)
      | inr (Q', d, e) ↦ subst (Hid B (intr P Q)) (sym e) (h-intr-r d)
    ]),
    back,
  )
    where
      back : {P Q R : Proc} → Hid B (intr P Q) R → Image (λ p. intr p Q) (Hid B P) R ⊎ Image (λ q. intr P q) (Hid B Q) R
      back (h-intr-l {P' = P'} d) = inl (P', d, refl)
      back (h-intr-r {Q' = Q'} d) = inr (Q', d, refl)

  pub int-hids : (P Q R : Proc) → ((R ≡ P) ⊎ (R ≡ Q)) ↔ Hid B (int P Q) R
  int-hids P Q R = (
    (λ s. elim s [
      | inl e ↦ subst (Hid B (int P Q)) (sym e) h-int-l
      | inr e ↦ subst (Hid B (int P Q)) (sym e) h-int-r
    ]),
    back,
  )
    where
      back : {P Q R : Proc} → Hid B (int P Q) R → (R ≡ P) ⊎ (R ≡ Q)
      back h-int-l = inl refl
      back h-int-r = inr refl

  pub seq-hids : (P Q R : Proc) → (Image (λ p. seq p Q) (Hid B P) R ⊎ (Ticks P × (R ≡ Q))) ↔ Hid B (seq P Q) R
  seq-hids P Q R = (
    (λ s. elim s [
      | inl (P', d, e) ↦ subst (Hid B (seq P Q)) (sym e) (h-seq d)
      | inr (t, e) ↦ subst (Hid B (seq P Q)) (sym e) (h-seq-t t)
    ]),
    back,
  )
    where
      back : {P Q R : Proc} → Hid B (seq P Q) R → Image (λ p. seq p Q) (Hid B P) R ⊎ (Ticks P × (R ≡ Q))
      back (h-seq {P' = P'} d) = inl (P', d, refl)
      back (h-seq-t t) = inr (t, refl)

  pub par-hids : (A : Set) (P Q R : Proc) → (Image (λ p. par A p Q) (OrEnd (Hid B P) P) R ⊎ Image (λ q. par A P q) (OrEnd (Hid B Q) Q) R) ↔ Hid B (par A P Q) R
  par-hids A P Q R = (
    (λ s. elim s [
      | inl (P', k, e) ↦ elim k [
        | inl d ↦ subst (Hid B (par A P Q)) (sym e) (h-par-l d)
        | inr (g, (o, t)) ↦ subst (Hid B (par A P Q)) (sym (e ∙ ap (λ p. par A p Q) g)) (h-par-tl o t)
      ]
      | inr (Q', k, e) ↦ elim k [
        | inl d ↦ subst (Hid B (par A P Q)) (sym e) (h-par-r d)
        | inr (g, (o, t)) ↦ subst (Hid B (par A P Q)) (sym (e ∙ ap (λ q. par A P q) g)) (h-par-tr o t)
      ]
    ]),
    back,
  )
    where
      back : {A : Set} {P Q R : Proc} → Hid B (par A P Q) R → Image (λ p. par A p Q) (OrEnd (Hid B P) P) R ⊎ Image (λ q. par A P q) (OrEnd (Hid B Q) Q) R
      back (h-par-l {P' = P'} d) = inl (P', inl d, refl)
      back (h-par-r {Q' = Q'} d) = inr (Q', inl d, refl)
      back (h-par-tl o t) = inl (skip, inr (refl, (o, t)), refl)
      back (h-par-tr o t) = inr (skip, inr (refl, (o, t)), refl)

  pub hide-hids : (A : Set) (P R : Proc) → Image (hide A) (λ Q. Hid B P Q ⊎ ActsIn A P Q) R ↔ Hid B (hide A P) R
  hide-hids A P R = (
    (λ (P', k, e). elim k [
      | inl d ↦ subst (Hid B (hide A P)) (sym e) (h-hide d)
      | inr (a, y, d) ↦ subst (Hid B (hide A P)) (sym e) (h-hide-a y d)
    ]),
    back,
  )
    where
      back : {A : Set} {P R : Proc} → Hid B (hide A P) R → Image (hide A) (λ Q. Hid B P Q ⊎ ActsIn A P Q) R
      back (h-hide {P' = P'} d) = (P', inl d, refl)
      back (h-hide-a {a = a} {P' = P'} y d) = (P', inr (a, y, d), refl)

  pub ren-hids : (N : Pairs) (P R : Proc) → Image (ren N) (Hid B P) R ↔ Hid B (ren N P) R
  ren-hids N P R = ((λ (P', d, e). subst (Hid B (ren N P)) (sym e) (h-ren d)), back)
    where
      back : {N : Pairs} {P R : Proc} → Hid B (ren N P) R → Image (ren N) (Hid B P) R
      back (h-ren {P' = P'} d) = (P', d, refl)

  pub name-hids : (k : ℕ) (R : Proc) → (R ≡ B k) ↔ Hid B (name k) R
  name-hids k R = (h-name, back)
    where
      back : {k : ℕ} {R : Proc} → Hid B (name k) R → R ≡ B k
      back (h-name e) = e
