-- What a process becomes by a hidden step, from what its parts become.
use Rattle.std.proofs.Common.{◌≡◌, ℕ, ◌⊎◌, Bool, true, false, not, ◌&&◌, inl, inr, List, [], ◌∷◌, map, refl, sym, ◌∙◌, true≢false}
use Rattle.alphabet.specs.EventSets.{Set}
use Rattle.term.specs.Traces.{Pairs as Relation}
use Rattle.term.specs.Limits.{Terms}
use Rattle.term.specs.Proc.{Proc, stop, skip, prefix, ext, int, seq, par, hide, ren, intr, name}
use Rattle.term.specs.Steps.{Hid, Ticks, is_skip}
use Rattle.targets.specs.Targets.{ticks}
use Rattle.targets.proofs.Ticking.{ticks-Ticks, Ticks-ticks}
use Rattle.targets.specs.Cuts.{CutOf}
use Rattle.targets.specs.Among.{Joined, ActsIn}
use Rattle.targets.proofs.Cutting.{Image, cut-to, cut-none, cut-one, cut-map}
use Rattle.targets.proofs.Lists.{joined-cut}
use Rattle.targets.proofs.Inverting.{ext-hids, intr-hids, int-hids, seq-hids, par-hids, hide-hids, ren-hids, name-hids}
use Rattle.nodes.specs.Looks.{OrEnd}
use Rattle.nodes.proofs.Acting.{cut-first}

module _ (B : ℕ → Proc) (k : ℕ) where
  pub stop-none : CutOf (Hid B stop) k []
  stop-none = cut-none (Hid B stop) k (λ R d. elim d [ ])

  pub skip-none : CutOf (Hid B skip) k []
  skip-none = cut-none (Hid B skip) k (λ R d. elim d [ ])

  pub prefix-none : (b : ℕ) (P : Proc) → CutOf (Hid B (prefix b P)) k []
  prefix-none b P = cut-none (Hid B (prefix b P)) k (λ R d. elim d [ ])

  pub int-found : (P Q : Proc) (found : List Proc) → CutOf (λ R. (R ≡ P) ⊎ (R ≡ Q)) k found → CutOf (Hid B (int P Q)) k found
  int-found P Q found c = cut-to (λ R. (R ≡ P) ⊎ (R ≡ Q)) (Hid B (int P Q)) k found (int-hids B P Q) c

  module _ (e found : List Proc) (none : e ≡ []) where
    first : (S : Terms) (l m : List Proc) → CutOf S k l → Joined k e l m → CutOf S k m
    first S l m c j = cut-first 0 k e m none S l m c j

    images : (f g : Proc → Proc) → ((P Q : Proc) → f P ≡ f Q → P ≡ Q) → ((P Q : Proc) → g P ≡ g Q → P ≡ Q) → (S T : Terms) (l r m : List Proc) → CutOf S k l → CutOf T k r → Joined k e (map f l) m → Joined k m (map g r) found → CutOf (λ R. Image f S R ⊎ Image g T R) k found
    images f g x y S T l r m c d j i =
        joined-cut (Image f S) (Image g T) k m (map g r) found (first (Image f S) (map f l) m (cut-map f x S k l c) j) (cut-map g y T k r d) i

    pub ext-found : (P Q : Proc) (l r m : List Proc) → CutOf (Hid B P) k l → CutOf (Hid B Q) k r → Joined k e (map (λ p. ext p Q) l) m → Joined k m (map (λ q. ext P q) r) found → CutOf (Hid B (ext P Q)) k found
    ext-found P Q l r m c d j i =
        cut-to (λ R. Image (λ p. ext p Q) (Hid B P) R ⊎ Image (λ q. ext P q) (Hid B Q) R) (Hid B (ext P Q)) k found (ext-hids B P Q)
        (images (λ p. ext p Q) (λ q. ext P q) (λ R S f. cc) (λ R S f. cc) (Hid B P) (Hid B Q) l r m c d j i)

    pub intr-found : (P Q : Proc) (l r m : List Proc) → CutOf (Hid B P) k l → CutOf (Hid B Q) k r → Joined k e (map (λ p. intr p Q) l) m → Joined k m (map (λ q. intr P q) r) found → CutOf (Hid B (intr P Q)) k found
    intr-found P Q l r m c d j i =
        cut-to (λ R. Image (λ p. intr p Q) (Hid B P) R ⊎ Image (λ q. intr P q) (Hid B Q) R) (Hid B (intr P Q)) k found (intr-hids B P Q)
        (images (λ p. intr p Q) (λ q. intr P q) (λ R S f. cc) (λ R S f. cc) (Hid B P) (Hid B Q) l r m c d j i)

    pub par-found : (A : Set) (P Q : Proc) (l r m : List Proc) → CutOf (OrEnd (Hid B P) P) k l → CutOf (OrEnd (Hid B Q) Q) k r → Joined k e (map (λ p. par A p Q) l) m → Joined k m (map (λ q. par A P q) r) found → CutOf (Hid B (par A P Q)) k found
    par-found A P Q l r m c d j i =
        cut-to (λ R. Image (λ p. par A p Q) (OrEnd (Hid B P) P) R ⊎ Image (λ q. par A P q) (OrEnd (Hid B Q) Q) R) (Hid B (par A P Q)) k found (par-hids B A P Q)
        (images (λ p. par A p Q) (λ q. par A P q) (λ R S f. cc) (λ R S f. cc) (OrEnd (Hid B P) P) (OrEnd (Hid B Q) Q) l r m c d j i)

    pub hide-found : (A : Set) (P : Proc) (l : List Proc) → CutOf (λ Q. Hid B P Q ⊎ ActsIn A P Q) k l → Joined k e (map (hide A) l) found → CutOf (Hid B (hide A P)) k found
    hide-found A P l c j =
        let S : Terms = λ Q. Hid B P Q ⊎ ActsIn A P Q in
        cut-to (Image (hide A) S) (Hid B (hide A P)) k found (hide-hids B A P)
        (first (Image (hide A) S) (map (hide A) l) found (cut-map (hide A) (λ R V f. cc) S k l c) j)

    pub ren-found : (N : Relation) (P : Proc) (l : List Proc) → CutOf (Hid B P) k l → Joined k e (map (ren N) l) found → CutOf (Hid B (ren N P)) k found
    ren-found N P l c j =
        cut-to (Image (ren N) (Hid B P)) (Hid B (ren N P)) k found (ren-hids B N P)
        (first (Image (ren N) (Hid B P)) (map (ren N) l) found (cut-map (ren N) (λ R V f. cc) (Hid B P) k l c) j)

    pub name-found : (n : ℕ) (l : List Proc) → CutOf (λ R. R ≡ B n) k l → Joined k e l found → CutOf (Hid B (name n)) k found
    name-found n l c j = cut-to (λ R. R ≡ B n) (Hid B (name n)) k found (name-hids B n) (first (λ R. R ≡ B n) l found c j)

    -- what the first part of a sequence becomes
    seq-first : (P Q : Proc) (l m : List Proc) → CutOf (Hid B P) k l → Joined k e (map (λ p. seq p Q) l) m → CutOf (Image (λ p. seq p Q) (Hid B P)) k m
    seq-first P Q l m c j = first (Image (λ p. seq p Q) (Hid B P)) (map (λ p. seq p Q) l) m (cut-map (λ p. seq p Q) (λ R V f. cc) (Hid B P) k l c) j

    pub seq-ends : (P Q : Proc) (l m : List Proc) → ticks P ≡ true → CutOf (Hid B P) k l → Joined k e (map (λ p. seq p Q) l) m → Joined k m (Q ∷ []) found → CutOf (Hid B (seq P Q)) k found
    seq-ends P Q l m t c j i =
        let S = Image (λ p. seq p Q) (Hid B P) in
        cut-to (λ R. S R ⊎ (Ticks P × (R ≡ Q))) (Hid B (seq P Q)) k found (seq-hids B P Q)
        (joined-cut S (λ R. Ticks P × (R ≡ Q)) k m (Q ∷ []) found (seq-first P Q l m c j)
        (cut-to (λ R. R ≡ Q) (λ R. Ticks P × (R ≡ Q)) k (Q ∷ []) (λ R. ((λ f. (ticks-Ticks P t, f)), (λ (d, f). f))) (cut-one k Q)) i)

    pub seq-stays : (P Q : Proc) (l : List Proc) → ticks P ≡ false → CutOf (Hid B P) k l → Joined k e (map (λ p. seq p Q) l) found → CutOf (Hid B (seq P Q)) k found
    seq-stays P Q l t c j =
        let S = Image (λ p. seq p Q) (Hid B P) in
        cut-to S (Hid B (seq P Q)) k found (λ R. ((λ s. (seq-hids B P Q R).0 (inl s)), (λ d. elim ((seq-hids B P Q R).1 d) [ inl s ↦ s | inr (x, f) ↦ absurd (true≢false (sym (Ticks-ticks x) ∙ t)) ])))
        (seq-first P Q l found c j)

-- both parts
pub both-found : (k : ℕ) (P Q : Proc) (e m found : List Proc) → e ≡ [] → Joined k e (P ∷ []) m → Joined k m (Q ∷ []) found → CutOf (λ R. (R ≡ P) ⊎ (R ≡ Q)) k found
both-found k P Q e m found none j i =
    joined-cut (λ R. R ≡ P) (λ R. R ≡ Q) k m (Q ∷ []) found (cut-first 0 k e m none (λ R. R ≡ P) (P ∷ []) m (cut-one k P) j) (cut-one k Q) i

-- ---- the end of a side
module _ (S : Terms) (P : Proc) (k : ℕ) where
  pub end-found : (m found : List Proc) (x y : Bool) → x ≡ ticks P → y ≡ is_skip P → (x && not y) ≡ true → CutOf S k m → Joined k m (skip ∷ []) found → CutOf (OrEnd S P) k found
  end-found m found true false t s e c j =
      let T : Terms = λ R. (R ≡ skip) × ((is_skip P ≡ false) × Ticks P) in
      let ends : (is_skip P ≡ false) × Ticks P = (sym s, ticks-Ticks P (sym t)) in
      cut-to (λ R. S R ⊎ T R) (OrEnd S P) k found (λ R. ((λ v. v), (λ v. v)))
      (joined-cut S T k m (skip ∷ []) found c (cut-to (λ R. R ≡ skip) T k (skip ∷ []) (λ R. ((λ f. (f, ends)), (λ v. v.0))) (cut-one k skip)) j)
  end-found m found true true t s e c j = absurd (cc)
  end-found m found false y t s e c j = absurd (cc)

  both : (x y : Bool) → x ≡ true → y ≡ false → (x && not y) ≡ true
  both true false e f = refl
  both true true e f = absurd (cc)
  both false y e f = absurd (cc)

  pub end-none : (m : List Proc) (x y : Bool) → x ≡ ticks P → y ≡ is_skip P → (x && not y) ≡ false → CutOf S k m → CutOf (OrEnd S P) k m
  end-none m x y t s e c =
      cut-to S (OrEnd S P) k m
      (λ R. ((λ v. inl v), (λ v. elim v [ inl w ↦ w | inr (f, (o, d)) ↦ absurd (true≢false (sym (both x y (t ∙ Ticks-ticks d) (s ∙ o)) ∙ e)) ]))) c
