-- Every trace has a run. One lemma for each operator says how runs of the parts make a run of the whole:
-- each takes what holds at the ends of the parts' runs (E) to what holds at the end of the whole's (F).
use Rattle.std.proofs.Common.{◌≡◌, ℕ, zero, suc, inl, inr, List, [], ◌∷◌, ◌++◌, refl, sym, subst, ◌∙◌}
use Rattle.term.specs.Events.{Event, tick, ev}
use Rattle.alphabet.specs.EventSets.{Set}
use Rattle.term.specs.Traces.{Pairs, TickFree, Merge, m-none, m-both, m-left, m-right, Hidden, x-none, x-out, x-kept, Related, r-none, r-more}
use Rattle.term.specs.Proc.{Proc, stop, skip, prefix, ext, int, seq, par, hide, ren, intr, name}
use Rattle.term.specs.Meaning.{TrIn, NameTr, Trace}
use Rattle.term.specs.Steps.{is_skip, Ticks, t-skip, t-ext-l, t-ext-r, t-par, t-hide, t-ren, t-intr-l, t-intr-r, Act, a-prefix, a-ext-l, a-ext-r, a-seq, a-par-l, a-par-r, a-par-b, a-hide, a-ren, a-intr-l, a-intr-r, h-int-l, h-int-r, h-ext-l, h-ext-r, h-seq, h-seq-t, h-par-l, h-par-r, h-par-tl, h-par-tr, h-hide, h-hide-a, h-ren, h-intr-l, h-intr-r, h-name, Run, done, hid, act, end}
use Rattle.std.proofs.lemmas.List.{append-nil}
use Rattle.term.proofs.Bools.{true-or-false}
use Rattle.term.proofs.Decide.{is_skip-is}

abbrev pub Any : Proc → Type 0
Any P = Unit {0}

head-eq : {x y : Event} {s t : List Event} → x ∷ s ≡ y ∷ t → x ≡ y
head-eq e = cc

tail-eq : {x y : Event} {s t : List Event} → x ∷ s ≡ y ∷ t → s ≡ t
tail-eq e = cc

nil-snoc : (u : List Event) → [] ≡ u ++ tick ∷ [] → ⊥
nil-snoc [] e = cc
nil-snoc (x ∷ u) e = cc

Merge-nil : {A : Set} {u : List Event} → Merge A [] [] u → u ≡ []
Merge-nil m-none = refl

module _ (B : ℕ → Proc) where
  -- nothing follows termination
  pub run-stop : {E : Proc → Type 0} {u : List Event} → Run B E stop u → (u ≡ []) × E stop
  run-stop (done e) = (refl, e)
  run-stop (hid d r) = elim d [ ]
  run-stop (act d r) = elim d [ ]
  run-stop (end t r) = elim t [ ]

  -- a run that ends with tick comes to a term that can tick
  pub run-ticks : {E : Proc → Type 0} {P : Proc} {v : List Event} → Run B E P v → (u : List Event) → v ≡ u ++ tick ∷ [] → Run B Ticks P u
  run-ticks (done e) u q = absurd (nil-snoc u q)
  run-ticks (hid d r) u q = hid d (run-ticks r u q)
  run-ticks (act d r) [] q = absurd (cc)
  run-ticks (act {P = P} d r) (x ∷ u) q =
      subst (λ y. Run B Ticks P (y ∷ u)) (head-eq q) (act d (run-ticks r u (tail-eq q)))
  run-ticks (end t r) [] q = done t
  run-ticks (end t r) (x ∷ u) q = absurd (nil-snoc u (sym (run-stop r).0 ∙ tail-eq q))

  module _ (E F : Proc → Type 0) where
    pub seq-run : (Q : Proc) → ((P : Proc) → E P → F (seq P Q)) → {P : Proc} {s : List Event} → Run B E P s → TickFree s → Run B F (seq P Q) s
    seq-run Q g (done {P = P} e) c = done (g P e)
    seq-run Q g (hid d r) c = hid (h-seq d) (seq-run Q g r c)
    seq-run Q g (act d r) c = act (a-seq d) (seq-run Q g r c)
    seq-run Q g (end t r) c = absurd c

    pub hide-run : (A : Set) → ((P : Proc) → E P → F (hide A P)) → F stop → {P : Proc} {s u : List Event} → Run B E P s → Hidden A s u → Run B F (hide A P) u
    hide-run A g z (done {P = P} e) x-none = done (g P e)
    hide-run A g z (hid d r) x = hid (h-hide d) (hide-run A g z r x)
    hide-run A g z (act d r) (x-out y x) = hid (h-hide-a y d) (hide-run A g z r x)
    hide-run A g z (act d r) (x-kept n x) = act (a-hide n d) (hide-run A g z r x)
    hide-run A g z (end t r) (x-out y x) = absurd (cc)
    hide-run A g z (end t r) (x-kept n x) = end (t-hide t) (after r x)
      where
        after : {s u : List Event} → Run B E stop s → Hidden A s u → Run B F stop u
        after r x-none = done z
        after r (x-out y x) = absurd (not_cons r)
          where
            not_cons : {x : Event} {s : List Event} → Run B E stop (x ∷ s) → ⊥
            not_cons r = let q = (run-stop r).0 in cc
        after r (x-kept y x) = absurd (not_cons r)
          where
            not_cons : {x : Event} {s : List Event} → Run B E stop (x ∷ s) → ⊥
            not_cons r = let q = (run-stop r).0 in cc

    ren-after : (R : Pairs) → F stop → {s u : List Event} → Run B E stop s → Related R s u → Run B F stop u
    ren-after R z r r-none = done z
    ren-after R z r (r-more i x) = absurd (not_cons r)
      where
        not_cons : {x : Event} {s : List Event} → Run B E stop (x ∷ s) → ⊥
        not_cons r = let q = (run-stop r).0 in cc

    pub ren-run : (R : Pairs) → ((P : Proc) → E P → F (ren R P)) → F stop → {P : Proc} {s u : List Event} → Run B E P s → Related R s u → Run B F (ren R P) u
    ren-run R g z (done {P = P} e) r-none = done (g P e)
    ren-run R g z (hid d r) x = hid (h-ren d) (ren-run R g z r x)
    ren-run R g z (act d r) (r-more {y = tick} i x) = absurd i
    ren-run R g z (act d r) (r-more {y = ev b} i x) = act (a-ren i d) (ren-run R g z r x)
    ren-run R g z (end t r) (r-more {y = tick} i x) = end (t-ren t) (ren-after R z r x)
    ren-run R g z (end t r) (r-more {y = ev b} i x) = absurd i

  module _ (E : Proc → Type 0) where
    pub ext-l-run : (Q : Proc) {P : Proc} {x : Event} {u : List Event} → Run B E P (x ∷ u) → Run B E (ext P Q) (x ∷ u)
    ext-l-run Q (hid d r) = hid (h-ext-l d) (ext-l-run Q r)
    ext-l-run Q (act d r) = act (a-ext-l d) r
    ext-l-run Q (end t r) = end (t-ext-l t) r

    pub ext-r-run : (P : Proc) {Q : Proc} {x : Event} {u : List Event} → Run B E Q (x ∷ u) → Run B E (ext P Q) (x ∷ u)
    ext-r-run P (hid d r) = hid (h-ext-r d) (ext-r-run P r)
    ext-r-run P (act d r) = act (a-ext-r d) r
    ext-r-run P (end t r) = end (t-ext-r t) r

    pub seq-run-then : {P Q : Proc} {s t : List Event} → Run B Ticks P s → Run B E Q t → Run B E (seq P Q) (s ++ t)
    seq-run-then (done t) k = hid (h-seq-t t) k
    seq-run-then (hid d r) k = hid (h-seq d) (seq-run-then r k)
    seq-run-then (act d r) k = act (a-seq d) (seq-run-then r k)
    seq-run-then (end t r) k = absurd (no_ticks (run-stop r).1)
      where
        no_ticks : Ticks stop → ⊥
        no_ticks t = elim t [ ]

    intr-r-run : (P : Proc) {Q : Proc} {x : Event} {u : List Event} → Run B E Q (x ∷ u) → Run B E (intr P Q) (x ∷ u)
    intr-r-run P (hid d r) = hid (h-intr-r d) (intr-r-run P r)
    intr-r-run P (act d r) = act (a-intr-r d) r
    intr-r-run P (end t r) = end (t-intr-r t) r

    pub intr-run-then : {D : Proc → Type 0} {P Q : Proc} {s : List Event} {x : Event} {t : List Event} → Run B D P s → TickFree s → Run B E Q (x ∷ t) → Run B E (intr P Q) (s ++ x ∷ t)
    intr-run-then (done {P = P} e) c k = intr-r-run P k
    intr-run-then (hid d r) c k = hid (h-intr-l d) (intr-run-then r c k)
    intr-run-then (act d r) c k = act (a-intr-l d) (intr-run-then r c k)
    intr-run-then (end t r) c k = absurd c

  module _ (E F : Proc → Type 0) (z : F stop) where
    pub intr-run : (Q : Proc) → ((P : Proc) → E P → F (intr P Q)) → {P : Proc} {s : List Event} → Run B E P s → Run B F (intr P Q) s
    intr-run Q g (done {P = P} e) = done (g P e)
    intr-run Q g (hid d r) = hid (h-intr-l d) (intr-run Q g r)
    intr-run Q g (act d r) = act (a-intr-l d) (intr-run Q g r)
    intr-run Q g (end {u = u} t r) = end (t-intr-l t) (subst (λ v. Run B F stop v) (sym (run-stop r).0) (done z))

  -- where both sides have terminated, parallel terminates
  module _ (A : Set) (E : Proc → Type 0) where
    pub skip-l : {P : Proc} (Q : Proc) (u : List Event) → Ticks P → Run B E (par A skip Q) u → Run B E (par A P Q) u
    skip-l {P} Q u t r =
        elim (true-or-false (is_skip P)) [
          | inl e ↦ subst (λ p. Run B E (par A p Q) u) (sym (is_skip-is P e)) r
          | inr o ↦ hid (h-par-tl o t) r
        ]

    pub skip-r : (P : Proc) {Q : Proc} (u : List Event) → Ticks Q → Run B E (par A P skip) u → Run B E (par A P Q) u
    skip-r P {Q} u t r =
        elim (true-or-false (is_skip Q)) [
          | inl e ↦ subst (λ q. Run B E (par A P q) u) (sym (is_skip-is Q e)) r
          | inr o ↦ hid (h-par-tr o t) r
        ]

    pub ticks-both : {P Q : Proc} {u : List Event} → Ticks P → Ticks Q → Run B E (par A skip skip) u → Run B E (par A P Q) u
    ticks-both {P} {Q} {u} t t' r = skip-l Q u t (skip-r skip u t' r)

  -- ---- parallel: hidden steps of P first, then those of Q, then what the merge says
  module _ (A : Set) (D E F : Proc → Type 0) (g : (P Q : Proc) → D P → E Q → Run B F (par A P Q) []) (z : F stop) where
    par-done : {P Q : Proc} {t u : List Event} → D P → Run B E Q t → Merge A [] t u → Run B F (par A P Q) u
    par-done {P} d (done {P = Q} e) m-none = g P Q d e
    par-done d (hid h r) m = hid (h-par-r h) (par-done d r m)
    par-done d (act h r) (m-right n m) = act (a-par-r n h) (par-done d r m)
    par-done d (end t r) (m-right n m) = absurd (cc)

    par-act : {a : ℕ} {P P' Q : Proc} {s t u : List Event} → Act P a P' → ((Q : Proc) (t u : List Event) → Run B E Q t → Merge A s t u → Run B F (par A P' Q) u) → Run B E Q t → Merge A (ev a ∷ s) t u → Run B F (par A P Q) u
    par-act d ih (done {P = Q} e) (m-left {u = u} n m) = act (a-par-l n d) (ih Q [] u (done e) m)
    par-act d ih (hid h r) m = hid (h-par-r h) (par-act d ih r m)
    par-act {Q} d ih (act {a = b} {u = t} h r) (m-left {u = u} n m) = act (a-par-l n d) (ih Q (ev b ∷ t) u (act h r) m)
    par-act d ih (act h r) (m-right n m) = act (a-par-r n h) (par-act d ih r m)
    par-act d ih (act {P' = Q'} {u = t} h r) (m-both {u = u} y m) = act (a-par-b y d h) (ih Q' t u r m)
    par-act {Q} d ih (end {u = t} k r) (m-left {u = u} n m) = act (a-par-l n d) (ih Q (tick ∷ t) u (end k r) m)
    par-act d ih (end t r) (m-right n m) = absurd (cc)

    par-end : {P Q : Proc} {s t u : List Event} → Ticks P → Run B D stop s → Run B E Q t → Merge A (tick ∷ s) t u → Run B F (par A P Q) u
    par-end k d (done e) (m-left n m) = absurd (cc)
    par-end k d (hid h r) m = hid (h-par-r h) (par-end k d r m)
    par-end k d (act h r) (m-left n m) = absurd (cc)
    par-end k d (act h r) (m-right n m) = act (a-par-r n h) (par-end k d r m)
    par-end k d (end t r) (m-left n m) = absurd (cc)
    par-end k d (end t r) (m-right n m) = absurd (cc)
    par-end k d (end t r) (m-both {s = s} {t = t'} {u = u} y m) = ticks-both A F k t (end t-par (subst (λ v. Run B F stop v) (sym (stopped (run-stop d).0 (run-stop r).0 m)) (done z)))
      where
        stopped : {s t u : List Event} → s ≡ [] → t ≡ [] → Merge A s t u → u ≡ []
        stopped e f m-none = refl
        stopped e f (m-left n m) = absurd (cc)
        stopped e f (m-right n m) = absurd (cc)
        stopped e f (m-both n m) = absurd (cc)

    pub par-run : {P Q : Proc} {s t u : List Event} → Run B D P s → Run B E Q t → Merge A s t u → Run B F (par A P Q) u
    par-run (done d) k m = par-done d k m
    par-run (hid d r) k m = hid (h-par-l d) (par-run r k m)
    par-run (act d r) k m = par-act d (λ Q t u k m. par-run r k m) k m
    par-run (end t r) k m = par-end t r k m

-- ---- every trace has a run
module _ (B : ℕ → Proc) where
  module _ (ρ : ℕ → List Event → Type 0) (f : (k : ℕ) (u : List Event) → ρ k u → Run B Any (name k) u) where
    pub Tr-run : (P : Proc) (u : List Event) → TrIn ρ P u → Run B Any P u
    Tr-run stop [] h = done tt
    Tr-run stop (x ∷ u) h = absurd h
    Tr-run skip [] h = done tt
    Tr-run skip (x ∷ u) (e, e') =
        subst (λ y. Run B Any skip (y ∷ u)) (sym e) (end t-skip (subst (λ v. Run B Any stop v) (sym e') (done tt)))
    Tr-run (prefix a P) [] h = done tt
    Tr-run (prefix a P) (x ∷ u) (e, h) = subst (λ y. Run B Any (prefix a P) (y ∷ u)) (sym e) (act a-prefix (Tr-run P u h))
    Tr-run (ext P Q) [] h = done tt
    Tr-run (ext P Q) (x ∷ u) (inl h) = ext-l-run B Any Q (Tr-run P (x ∷ u) h)
    Tr-run (ext P Q) (x ∷ u) (inr h) = ext-r-run B Any P (Tr-run Q (x ∷ u) h)
    Tr-run (int P Q) u (inl h) = hid h-int-l (Tr-run P u h)
    Tr-run (int P Q) u (inr h) = hid h-int-r (Tr-run Q u h)
    Tr-run (seq P Q) u (inl (c, h)) = seq-run B Any Any Q (λ P' e. tt) (Tr-run P u h) c
    Tr-run (seq P Q) u (inr (s, t, e, c, h, k)) =
        subst (λ v. Run B Any (seq P Q) v) (sym e) (seq-run-then B Any (run-ticks B (Tr-run P (s ++ tick ∷ []) h) s refl) (Tr-run Q t k))
    Tr-run (par A P Q) u (s, t, h, k, m) = par-run B A Any Any Any (λ P' Q' d e. done tt) tt (Tr-run P s h) (Tr-run Q t k) m
    Tr-run (hide A P) u (s, h, x) = hide-run B Any Any A (λ P' e. tt) tt (Tr-run P s h) x
    Tr-run (ren R P) u (s, h, r) = ren-run B Any Any R (λ P' e. tt) tt (Tr-run P s h) r
    Tr-run (intr P Q) u (inl h) = intr-run B Any Any tt Q (λ P' e. tt) (Tr-run P u h)
    Tr-run (intr P Q) u (inr (s, [], e, c, h, k)) =
        subst (λ v. Run B Any (intr P Q) v) (sym (e ∙ append-nil s)) (intr-run B Any Any tt Q (λ P' e. tt) (Tr-run P s h))
    Tr-run (intr P Q) u (inr (s, x ∷ t, e, c, h, k)) =
        subst (λ v. Run B Any (intr P Q) v) (sym e) (intr-run-then B Any (Tr-run P s h) c (Tr-run Q (x ∷ t) k))
    Tr-run (name k) u h = f k u h

  pub NameTr-run : (n k : ℕ) (u : List Event) → NameTr B n k u → Run B Any (name k) u
  NameTr-run zero k u e = subst (λ v. Run B Any (name k) v) (sym e) (done tt)
  NameTr-run (suc n) k u h = hid (h-name refl) (Tr-run (NameTr B n) (NameTr-run n) (B k) u h)

  pub trace-run : (P : Proc) (u : List Event) → Trace B P u → Run B Any P u
  trace-run P u (n, h) = Tr-run (NameTr B n) (NameTr-run n) P u h
