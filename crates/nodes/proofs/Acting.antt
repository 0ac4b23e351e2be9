-- What a process becomes by an event, from what its parts become by it.
use Rattle.std.proofs.Common.{◌≡◌, ℕ, Result, Ok, Err, OnOk, ◌+◌, ◌<◌, ◌⊎◌, inl, inr, Bool, true, false, List, [], ◌∷◌, length, map, take, drop, nat_eq, refl, sym, ap, ◌∙◌, subst, arith, true≢false}
use Rattle.std.proofs.lemmas.Bool.{eqb-true, eq-eqb}
use Rattle.std.proofs.lemmas.List.{take_all, take-append-drop}
use Rattle.alphabet.specs.EventSets.{Set, has}
use Rattle.term.specs.Traces.{Pairs as Relation, In, images}
use Rattle.term.specs.Limits.{Terms}
use Rattle.term.specs.Proc.{Proc, stop, skip, prefix, ext, int, seq, par, hide, ren, intr, name}
use Rattle.term.specs.Steps.{Act, a-prefix, a-ext-l, a-ext-r, a-seq, a-par-l, a-par-r, a-par-b, a-hide, a-ren, a-intr-l, a-intr-r}
use Rattle.targets.specs.Targets.{pairs_of, where_, sources}
use Rattle.targets.proofs.Members.{In-append_l}
use Rattle.targets.proofs.Sources.{image-source, source-image}
use Rattle.targets.specs.Cuts.{CutOf}
use Rattle.targets.specs.Among.{Joined}
use Rattle.targets.proofs.Cutting.{Image, Pairs, no-longer, cut-to, cut-none, cut-one, cut-all, cut-map, cut-pairs}
use Rattle.targets.proofs.Lists.{joined-cut}
use Rattle.targets.proofs.Inverting.{par-act}
use Rattle.nodes.specs.Shapes.{at}
use Rattle.nodes.specs.Tables.{Tabled}
use Rattle.nodes.specs.Looks.{look, ActsBy, AllBelow, IsCutIn}

-- ---- one step backwards
ext-act : {P Q R : Proc} {a : ℕ} → Act (ext P Q) a R → Act P a R ⊎ Act Q a R
ext-act (a-ext-l d) = inl d
ext-act (a-ext-r d) = inr d

seq-act : {P Q R : Proc} {a : ℕ} → Act (seq P Q) a R → Image (λ p. seq p Q) (Act P a) R
seq-act (a-seq {P' = P'} d) = (P', d, refl)

hide-act : {A : Set} {P R : Proc} {a : ℕ} → Act (hide A P) a R → (has A a ≡ false) × Image (hide A) (Act P a) R
hide-act (a-hide {P' = P'} n d) = (n, (P', d, refl))

ren-act : {N : Relation} {P R : Proc} {b : ℕ} → Act (ren N P) b R → (a : ℕ) × In b (images N a) × Image (ren N) (Act P a) R
ren-act (a-ren {a = a} {P' = P'} i d) = (a, i, (P', d, refl))

intr-act : {P Q R : Proc} {a : ℕ} → Act (intr P Q) a R → Image (λ p. intr p Q) (Act P a) R ⊎ Act Q a R
intr-act (a-intr-l {P' = P'} d) = inl (P', d, refl)
intr-act (a-intr-r d) = inr d

prefix-act : {P R : Proc} {a b : ℕ} → Act (prefix b P) a R → (a ≡ b) × (R ≡ P)
prefix-act a-prefix = (refl, refl)

take-In : (n : ℕ) (l : List Proc) {P : Proc} → In P (take n l) → In P l
take-In n l {P} i = subst (In P) (take-append-drop n l) (In-append_l i (drop n l))

module _ (a k : ℕ) where
  -- ---- without parts
  pub stop-acts : CutOf (Act stop a) k []
  stop-acts = cut-none (Act stop a) k (λ R d. elim d [ ])

  pub skip-acts : CutOf (Act skip a) k []
  skip-acts = cut-none (Act skip a) k (λ R d. elim d [ ])

  pub name-acts : (n : ℕ) → CutOf (Act (name n) a) k []
  name-acts n = cut-none (Act (name n) a) k (λ R d. elim d [ ])

  pub int-acts : (P Q : Proc) → CutOf (Act (int P Q) a) k []
  int-acts P Q = cut-none (Act (int P Q) a) k (λ R d. elim d [ ])

  pub prefix-acts : (b : ℕ) (P : Proc) (found : List Proc) → found ≡ where_ (nat_eq b a) (P ∷ []) → CutOf (Act (prefix b P) a) k found
  prefix-acts b P found f = by (nat_eq b a) refl
    where
      by : (v : Bool) → nat_eq b a ≡ v → CutOf (Act (prefix b P) a) k found
      by true e =
          let same : b ≡ a = eqb-true b a e in
          subst (CutOf (Act (prefix b P) a) k) (sym (f ∙ ap (λ v. where_ v (P ∷ [])) e))
          (cut-to (λ R. R ≡ P) (Act (prefix b P) a) k (P ∷ []) (λ R. ((λ i. subst (λ x. Act (prefix b P) x R) same (subst (λ r. Act (prefix b P) b r) (sym i) a-prefix)), (λ d. (prefix-act d).1))) (cut-one k P))
      by false e =
          subst (CutOf (Act (prefix b P) a) k) (sym (f ∙ ap (λ v. where_ v (P ∷ [])) e))
          (cut-none (Act (prefix b P) a) k (λ R d. true≢false (sym (eq-eqb b a (sym (prefix-act d).0)) ∙ e)))

  pub hidden-acts : (A : Set) (P : Proc) → has A a ≡ true → CutOf (Act (hide A P) a) k []
  hidden-acts A P y = cut-none (Act (hide A P) a) k (λ R d. true≢false (sym y ∙ (hide-act d).0))

  -- ---- over the lists of the parts
  module _ (e found : List Proc) (none : e ≡ []) where
    pub cut-first : (S : Terms) (l m : List Proc) → CutOf S k l → Joined k e l m → CutOf S k m
    cut-first S l m c j =
        cut-to (λ Q. ⊥ ⊎ S Q) S k m (λ Q. ((λ s. elim s [ inl b ↦ absurd b | inr x ↦ x ]), (λ x. inr x)))
        (joined-cut (λ Q. ⊥) S k e l m (subst (CutOf (λ Q. ⊥) k) (sym none) (cut-none (λ Q. ⊥) k (λ Q b. b))) c j)

    pub ext-acts : (P Q : Proc) (l r m : List Proc) → CutOf (Act P a) k l → CutOf (Act Q a) k r → Joined k e l m → Joined k m r found → CutOf (Act (ext P Q) a) k found
    ext-acts P Q l r m c d j i =
        cut-to (λ R. Act P a R ⊎ Act Q a R) (Act (ext P Q) a) k found (λ R. ((λ s. elim s [ inl x ↦ a-ext-l x | inr x ↦ a-ext-r x ]), (λ x. ext-act x)))
        (joined-cut (Act P a) (Act Q a) k m r found (cut-first (Act P a) l m c j) d i)

    pub seq-acts : (P Q : Proc) (l : List Proc) → CutOf (Act P a) k l → Joined k e (map (λ p. seq p Q) l) found → CutOf (Act (seq P Q) a) k found
    seq-acts P Q l c j =
        cut-to (Image (λ p. seq p Q) (Act P a)) (Act (seq P Q) a) k found (λ R. ((λ (P', d, f). subst (λ r. Act (seq P Q) a r) (sym f) (a-seq d)), (λ d. seq-act d)))
        (cut-first (Image (λ p. seq p Q) (Act P a)) (map (λ p. seq p Q) l) found (cut-map (λ p. seq p Q) (λ R S f. cc) (Act P a) k l c) j)

    pub shown-acts : (A : Set) (P : Proc) (l : List Proc) → has A a ≡ false → CutOf (Act P a) k l → Joined k e (map (hide A) l) found → CutOf (Act (hide A P) a) k found
    shown-acts A P l n c j =
        cut-to (Image (hide A) (Act P a)) (Act (hide A P) a) k found (λ R. ((λ (P', d, f). subst (λ r. Act (hide A P) a r) (sym f) (a-hide n d)), (λ d. (hide-act d).1)))
        (cut-first (Image (hide A) (Act P a)) (map (hide A) l) found (cut-map (hide A) (λ R S f. cc) (Act P a) k l c) j)

    pub ren-acts : (N : Relation) (P : Proc) (l : List Proc) → CutOf (ActsBy (sources N a) P) k l → Joined k e (map (ren N) l) found → CutOf (Act (ren N P) a) k found
    ren-acts N P l c j =
        cut-to (Image (ren N) (ActsBy (sources N a) P)) (Act (ren N P) a) k found
        (λ R. (
          (λ (P', (b, i, d), f). subst (λ r. Act (ren N P) a r) (sym f) (a-ren (source-image N b a i) d)),
          (λ d. let (b, i, (P', d', f)) = ren-act d in (P', (b, image-source N b a i, d'), f)),
        ))
        (cut-first (Image (ren N) (ActsBy (sources N a) P)) (map (ren N) l) found (cut-map (ren N) (λ R S f. cc) (ActsBy (sources N a) P) k l c) j)

    pub intr-acts : (P Q : Proc) (l r m : List Proc) → CutOf (Act P a) k l → CutOf (Act Q a) k r → Joined k e (map (λ p. intr p Q) l) m → Joined k m r found → CutOf (Act (intr P Q) a) k found
    intr-acts P Q l r m c d j i =
        let S = Image (λ p. intr p Q) (Act P a) in
        cut-to (λ R. S R ⊎ Act Q a R) (Act (intr P Q) a) k found
        (λ R. ((λ s. elim s [ inl (P', x, f) ↦ subst (λ r. Act (intr P Q) a r) (sym f) (a-intr-l x) | inr x ↦ a-intr-r x ]), (λ x. intr-act x)))
        (joined-cut S (Act Q a) k m r found (cut-first S (map (λ p. intr p Q) l) m (cut-map (λ p. intr p Q) (λ R T f. cc) (Act P a) k l c) j) d i)

    pub alone-acts : (A : Set) (P Q : Proc) (l r m : List Proc) → has A a ≡ false → CutOf (Act P a) k l → CutOf (Act Q a) k r → Joined k e (map (λ p. par A p Q) l) m → Joined k m (map (λ q. par A P q) r) found → CutOf (Act (par A P Q) a) k found
    alone-acts A P Q l r m n c d j i =
        let S = Image (λ p. par A p Q) (Act P a) in
        let T = Image (λ q. par A P q) (Act Q a) in
        cut-to (λ R. S R ⊎ T R) (Act (par A P Q) a) k found (λ R. (to R, from R))
        (joined-cut S T k m (map (λ q. par A P q) r) found
        (cut-first S (map (λ p. par A p Q) l) m (cut-map (λ p. par A p Q) (λ R V f. cc) (Act P a) k l c) j)
        (cut-map (λ q. par A P q) (λ R V f. cc) (Act Q a) k r d) i)
      where
        to : (R : Proc) → Image (λ p. par A p Q) (Act P a) R ⊎ Image (λ q. par A P q) (Act Q a) R → Act (par A P Q) a R
        to R (inl (P', x, f)) = subst (λ r. Act (par A P Q) a r) (sym f) (a-par-l n x)
        to R (inr (Q', x, f)) = subst (λ r. Act (par A P Q) a r) (sym f) (a-par-r n x)

        from : (R : Proc) → Act (par A P Q) a R → Image (λ p. par A p Q) (Act P a) R ⊎ Image (λ q. par A P q) (Act Q a) R
        from R x = elim (par-act x) [ inl s ↦ s.1 | inr s ↦ absurd (true≢false (sym s.0 ∙ n)) ]

    -- all pairs, each once
    pairs-cut : (A : Set) (S T : Terms) (l r : List Proc) → CutOf S k l → CutOf T k r → Joined k e (pairs_of (par A) l r) found → CutOf (Pairs (par A) S T) k found
    pairs-cut A S T l r c d j =
        record {
          once = cut.once;
          only = λ R i. members R (cut.only R i);
          all = elim cut.all [ inl h ↦ inl h | inr g ↦ elim front.all [ inl h ↦ inl (enough g h) | inr f ↦ inr (λ R x. g R (within R (f R x))) ] ];
        }
      where
        ps : List Proc
        ps = pairs_of (par A) l r

        inj : (P Q R V : Proc) → par A P Q ≡ par A R V → (P ≡ R) × (Q ≡ V)
        inj P Q R V f = (cc, cc)

        whole : CutOf (Pairs (par A) (λ Q. In Q l) (λ Q. In Q r)) (length ps) ps
        whole =
            cut-pairs (par A) inj (λ Q. In Q l) (λ Q. In Q r) (length ps) l r ps (cut-all (length ps) l c.once) (cut-all (length ps) r d.once)
            (sym (take_all (length ps + 1) ps (omega arith)))

        cut : CutOf (λ Q. In Q ps) k found
        cut = cut-first (λ Q. In Q ps) ps found (cut-all k ps whole.once) j

        members : (R : Proc) → In R ps → Pairs (par A) S T R
        members R i = let (P, Q, x, y, f) = whole.only R i in (P, Q, c.only P x, d.only Q y, f)

        front : CutOf (Pairs (par A) S T) k (take (k + 1) ps)
        front = cut-pairs (par A) inj S T k l r (take (k + 1) ps) c d refl

        within : (R : Proc) → In R (take (k + 1) ps) → In R ps
        within R i = take-In (k + 1) ps i

        enough : ((R : Proc) → In R ps → In R found) → k < length (take (k + 1) ps) → k < length found
        enough g h = let n = no-longer (take (k + 1) ps) found front.once (λ R i. g R (within R i)) in omega (arith, n)

    pub both-acts : (A : Set) (P Q : Proc) (l r : List Proc) → has A a ≡ true → CutOf (Act P a) k l → CutOf (Act Q a) k r → Joined k e (pairs_of (par A) l r) found → CutOf (Act (par A P Q) a) k found
    both-acts A P Q l r y c d j =
        cut-to (Pairs (par A) (Act P a) (Act Q a)) (Act (par A P Q) a) k found (λ R. (to R, from R)) (pairs-cut A (Act P a) (Act Q a) l r c d j)
      where
        to : (R : Proc) → Pairs (par A) (Act P a) (Act Q a) R → Act (par A P Q) a R
        to R (P', Q', x, z, f) = subst (λ r. Act (par A P Q) a r) (sym f) (a-par-b y x z)

        from : (R : Proc) → Act (par A P Q) a R → Pairs (par A) (Act P a) (Act Q a) R
        from R x = elim (par-act x) [ inl s ↦ absurd (true≢false (sym y ∙ s.0)) | inr s ↦ s.1 ]

-- ---- a result that is Ok
pub on-ok : {T E : Type 0} (r : Result T E) (X Y : Type 0) → OnOk r X → (X → Y) → OnOk r Y
on-ok (Ok x) X Y p f = f p
on-ok (Err e) X Y p f = tt

pub on-both : {T E : Type 0} (r : Result T E) (X Y Z : Type 0) → OnOk r X → OnOk r Y → (X → Y → Z) → OnOk r Z
on-both (Ok x) X Y Z p q f = f p q
on-both (Err e) X Y Z p q f = tt

pub single-found : (t : Tabled) (b a k p : ℕ) (found : List ℕ) → p < length t.processes → found ≡ where_ (nat_eq b a) (p ∷ []) → IsCutIn t (Act (prefix b (at t.processes p)) a) k found
single-found t b a k p found h f =
    record {
      here = subst (AllBelow (length t.processes)) (sym f) (below (nat_eq b a));
      cut = prefix-acts a k b (at t.processes p) (look t.processes found) (ap (look t.processes) f ∙ seen (nat_eq b a));
    }
  where
    below : (v : Bool) → AllBelow (length t.processes) (where_ v (p ∷ []))
    below true = (h, tt)
    below false = tt

    seen : (v : Bool) → look t.processes (where_ v (p ∷ [])) ≡ where_ v (at t.processes p ∷ [])
    seen true = refl
    seen false = refl
