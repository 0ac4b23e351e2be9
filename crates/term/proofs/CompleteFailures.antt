-- Every failure has a run to a state that refuses it.
use Rattle.std.proofs.Common.{◌≡◌, ℕ, zero, suc, Bool, true, false, ◌||◌, inl, inr, List, [], ◌∷◌, ◌++◌, refl, sym, subst, ◌∙◌}
use Rattle.term.specs.Events.{Event, tick, ev}
use Rattle.alphabet.specs.EventSets.{Set, has}
use Rattle.term.specs.Traces.{Refusal, Pairs, joint, with_tick, with_set, before, TickFree}
use Rattle.term.specs.Proc.{Proc, stop, skip, prefix, ext, int, seq, par, hide, ren, intr, name}
use Rattle.term.specs.Meaning.{TrIn, FlIn, NameTr, NameFl, Failure}
use Rattle.term.specs.Steps.{Ticks, t-skip, t-ext-l, t-ext-r, t-par, t-hide, t-ren, t-intr-l, t-intr-r, Act, a-prefix, a-ext-l, a-ext-r, a-seq, a-par-l, a-par-r, a-par-b, a-hide, a-ren, a-intr-l, a-intr-r, h-int-l, h-int-r, h-ext-l, h-ext-r, h-seq, h-seq-t, h-par-l, h-par-r, h-par-tl, h-par-tr, h-hide, h-hide-a, h-ren, h-intr-l, h-intr-r, h-name, Run, done, hid, act, end, Stable, Rests, Refuses}
use Rattle.term.proofs.Bools.{or-left, or-right, or-cases, not-both}
use Rattle.term.proofs.Decide.{In-some_in, par-parts}
use Rattle.term.proofs.CompleteTraces.{Any, run-ticks, seq-run, seq-run-then, hide-run, ren-run, ext-l-run, ext-r-run, intr-run, intr-run-then, par-run, skip-l, skip-r, Tr-run, NameTr-run}

module _ (B : ℕ → Proc) where
  -- ---- what the whole refuses where the parts do
  pub stop-Refuses : (X : Refusal) → Refuses B X stop
  stop-Refuses X = inl ((λ P' d. elim d [ ]), (λ t. elim t [ ]), (λ a P' e d. elim d [ ]))

  prefix-Refuses : (X : Refusal) (a : ℕ) (P : Proc) → X (ev a) ≡ false → Refuses B X (prefix a P)
  prefix-Refuses X a P n = inl ((λ P' d. elim d [ ]), (λ t. elim t [ ]), acts)
    where
      acts : (b : ℕ) (P' : Proc) → X (ev b) ≡ true → Act (prefix a P) b P' → ⊥
      acts b P' e a-prefix = not-both e n

  ext-Refuses : (X : Refusal) (P Q : Proc) → Refuses B X P → Refuses B X Q → Refuses B X (ext P Q)
  ext-Refuses X P Q (inr (t, e)) k = inr (t-ext-l t, e)
  ext-Refuses X P Q (inl h) (inr (t, e)) = inr (t-ext-r t, e)
  ext-Refuses X P Q (inl (st, nt, na)) (inl (st', nt', na')) = inl (stable, ticks, acts)
    where
      stable : Stable B (ext P Q)
      stable R (h-ext-l {P' = P'} d) = st P' d
      stable R (h-ext-r {Q' = Q'} d) = st' Q' d

      ticks : Ticks (ext P Q) → ⊥
      ticks (t-ext-l t) = nt t
      ticks (t-ext-r t) = nt' t

      acts : (a : ℕ) (R : Proc) → X (ev a) ≡ true → Act (ext P Q) a R → ⊥
      acts a R e (a-ext-l d) = na a R e d
      acts a R e (a-ext-r d) = na' a R e d

  seq-Refuses : (X : Refusal) (Q P : Proc) → Refuses B (with_tick X) P → Refuses B X (seq P Q)
  seq-Refuses X Q P (inr (t, e)) = absurd (cc)
  seq-Refuses X Q P (inl (st, nt, na)) = inl (stable, (λ t. elim t [ ]), acts)
    where
      stable : Stable B (seq P Q)
      stable R (h-seq {P' = P'} d) = st P' d
      stable R (h-seq-t t) = nt t

      acts : (a : ℕ) (R : Proc) → X (ev a) ≡ true → Act (seq P Q) a R → ⊥
      acts a R e (a-seq {P' = P'} d) = na a P' e d

  hide-Refuses : (X : Refusal) (A : Set) (P : Proc) → Refuses B (with_set A X) P → Refuses B X (hide A P)
  hide-Refuses X A P (inr (t, e)) = inr (t-hide t, left_false (X tick) e)
    where
      left_false : (b : Bool) → (b || false) ≡ false → b ≡ false
      left_false true e = e
      left_false false e = refl
  hide-Refuses X A P (inl (st, nt, na)) = inl (stable, ticks, acts)
    where
      stable : Stable B (hide A P)
      stable R (h-hide {P' = P'} d) = st P' d
      stable R (h-hide-a {a = a} {P' = P'} y d) = na a P' (or-right (X (ev a)) (has A a) y) d

      ticks : Ticks (hide A P) → ⊥
      ticks (t-hide t) = nt t

      acts : (a : ℕ) (R : Proc) → X (ev a) ≡ true → Act (hide A P) a R → ⊥
      acts a R e (a-hide {P' = P'} n d) = na a P' (or-left (X (ev a)) (has A a) e) d

  ren-Refuses : (X : Refusal) (S : Pairs) (P : Proc) → Refuses B (before S X) P → Refuses B X (ren S P)
  ren-Refuses X S P (inr (t, e)) = inr (t-ren t, e)
  ren-Refuses X S P (inl (st, nt, na)) = inl (stable, ticks, acts)
    where
      stable : Stable B (ren S P)
      stable R (h-ren {P' = P'} d) = st P' d

      ticks : Ticks (ren S P) → ⊥
      ticks (t-ren t) = nt t

      acts : (b : ℕ) (R : Proc) → X (ev b) ≡ true → Act (ren S P) b R → ⊥
      acts b R e (a-ren {a = a} {P' = P'} i d) = na a P' (In-some_in i X e) d

  intr-Refuses : (X : Refusal) (P Q : Proc) → Refuses B X P → Refuses B X Q → Refuses B X (intr P Q)
  intr-Refuses X P Q (inr (t, e)) k = inr (t-intr-l t, e)
  intr-Refuses X P Q (inl h) (inr (t, e)) = inr (t-intr-r t, e)
  intr-Refuses X P Q (inl (st, nt, na)) (inl (st', nt', na')) = inl (stable, ticks, acts)
    where
      stable : Stable B (intr P Q)
      stable R (h-intr-l {P' = P'} d) = st P' d
      stable R (h-intr-r {Q' = Q'} d) = st' Q' d

      ticks : Ticks (intr P Q) → ⊥
      ticks (t-intr-l t) = nt t
      ticks (t-intr-r t) = nt' t

      acts : (a : ℕ) (R : Proc) → X (ev a) ≡ true → Act (intr P Q) a R → ⊥
      acts a R e (a-intr-l {P' = P'} d) = na a P' e d
      acts a R e (a-intr-r d) = na' a R e d

  -- both sides' refusals together, where they are equal outside A and tick
  module _ (A : Set) (X Y Z : Refusal) (union : (x : Event) → X x ≡ (Y x || Z x)) (same : (x : Event) → joint A x ≡ false → Y x ≡ Z x) where
    of_y : (a : ℕ) → has A a ≡ false → X (ev a) ≡ true → Y (ev a) ≡ true
    of_y a n e = elim (or-cases (Y (ev a)) (Z (ev a)) (sym (union (ev a)) ∙ e)) [ inl y ↦ y | inr z ↦ same (ev a) n ∙ z ]

    of_z : (a : ℕ) → has A a ≡ false → X (ev a) ≡ true → Z (ev a) ≡ true
    of_z a n e = elim (or-cases (Y (ev a)) (Z (ev a)) (sym (union (ev a)) ∙ e)) [ inl y ↦ sym (same (ev a) n) ∙ y | inr z ↦ z ]

    rest-rest : (P Q : Proc) → Rests B Y P → Rests B Z Q → Rests B X (par A P Q)
    rest-rest P Q (st, nt, na) (st', nt', na') = (stable, ticks, acts)
      where
        stable : Stable B (par A P Q)
        stable R (h-par-l {P' = P'} d) = st P' d
        stable R (h-par-r {Q' = Q'} d) = st' Q' d
        stable R (h-par-tl o t) = nt t
        stable R (h-par-tr o t) = nt' t

        ticks : Ticks (par A P Q) → ⊥
        ticks t = nt (par-parts t).0

        acts : (a : ℕ) (R : Proc) → X (ev a) ≡ true → Act (par A P Q) a R → ⊥
        acts a R e (a-par-l {P' = P'} n d) = na a P' (of_y a n e) d
        acts a R e (a-par-r {Q' = Q'} n d) = na' a Q' (of_z a n e) d
        acts a R e (a-par-b {P' = P'} {Q' = Q'} y d d') =
            elim (or-cases (Y (ev a)) (Z (ev a)) (sym (union (ev a)) ∙ e)) [ inl y ↦ na a P' y d | inr z ↦ na' a Q' z d' ]

    skip-rest : (Q : Proc) → Rests B Z Q → Rests B X (par A skip Q)
    skip-rest Q (st, nt, na) = (stable, ticks, acts)
      where
        stable : Stable B (par A skip Q)
        stable R (h-par-l d) = elim d [ ]
        stable R (h-par-r {Q' = Q'} d) = st Q' d
        stable R (h-par-tl o t) = absurd (cc)
        stable R (h-par-tr o t) = nt t

        ticks : Ticks (par A skip Q) → ⊥
        ticks t = nt (par-parts t).1

        acts : (a : ℕ) (R : Proc) → X (ev a) ≡ true → Act (par A skip Q) a R → ⊥
        acts a R e (a-par-l n d) = elim d [ ]
        acts a R e (a-par-r {Q' = Q'} n d) = na a Q' (of_z a n e) d
        acts a R e (a-par-b y d d') = elim d [ ]

    rest-skip : (P : Proc) → Rests B Y P → Rests B X (par A P skip)
    rest-skip P (st, nt, na) = (stable, ticks, acts)
      where
        stable : Stable B (par A P skip)
        stable R (h-par-l {P' = P'} d) = st P' d
        stable R (h-par-r d) = elim d [ ]
        stable R (h-par-tl o t) = nt t
        stable R (h-par-tr o t) = absurd (cc)

        ticks : Ticks (par A P skip) → ⊥
        ticks t = nt (par-parts t).0

        acts : (a : ℕ) (R : Proc) → X (ev a) ≡ true → Act (par A P skip) a R → ⊥
        acts a R e (a-par-l {P' = P'} n d) = na a P' (of_y a n e) d
        acts a R e (a-par-r n d) = elim d [ ]
        acts a R e (a-par-b y d d') = elim d' [ ]

    par-Refuses : (P Q : Proc) → Refuses B Y P → Refuses B Z Q → Run B (Refuses B X) (par A P Q) []
    par-Refuses P Q (inl h) (inl k) = done (inl (rest-rest P Q h k))
    par-Refuses P Q (inr (t, e)) (inl k) = skip-l B A (Refuses B X) Q [] t (done (inl (skip-rest Q k)))
    par-Refuses P Q (inl h) (inr (t, e)) = skip-r B A (Refuses B X) P [] t (done (inl (rest-skip P h)))
    par-Refuses P Q (inr (t, e)) (inr (t', e')) =
        skip-l B A (Refuses B X) Q [] t (skip-r B A (Refuses B X) skip [] t' (done (inr (t-par, union tick ∙ neither (Y tick) (Z tick) e e'))))
      where
        neither : (a b : Bool) → a ≡ false → b ≡ false → (a || b) ≡ false
        neither true b e f = e
        neither false b e f = f

  -- ---- runs with no event in them
  module _ (D E F : Proc → Type 0) where
    ext-right : (P : Proc) → ((Q : Proc) → E Q → F (ext P Q)) → {Q : Proc} → Run B E Q [] → Run B F (ext P Q) []
    ext-right P g (done {P = Q} e) = done (g Q e)
    ext-right P g (hid d r) = hid (h-ext-r d) (ext-right P g r)

    ext-run : ((P Q : Proc) → D P → E Q → F (ext P Q)) → {P Q : Proc} → Run B D P [] → Run B E Q [] → Run B F (ext P Q) []
    ext-run g (done {P = P} d) k = ext-right P (λ Q e. g P Q d e) k
    ext-run g (hid d r) k = hid (h-ext-l d) (ext-run g r k)

    intr-right : (P : Proc) → ((Q : Proc) → E Q → F (intr P Q)) → {Q : Proc} → Run B E Q [] → Run B F (intr P Q) []
    intr-right P g (done {P = Q} e) = done (g Q e)
    intr-right P g (hid d r) = hid (h-intr-r d) (intr-right P g r)

    intr-both : ((P Q : Proc) → D P → E Q → F (intr P Q)) → {P Q : Proc} {s : List Event} → Run B D P s → TickFree s → Run B E Q [] → Run B F (intr P Q) s
    intr-both g (done {P = P} d) c k = intr-right P (λ Q e. g P Q d e) k
    intr-both g (hid d r) c k = hid (h-intr-l d) (intr-both g r c k)
    intr-both g (act d r) c k = act (a-intr-l d) (intr-both g r c k)
    intr-both g (end t r) c k = absurd c

  intr-ends : (F : Proc → Type 0) → F stop → (Q : Proc) {P : Proc} {s : List Event} → Run B Ticks P s → TickFree s → Run B F (intr P Q) (s ++ tick ∷ [])
  intr-ends F z Q (done t) c = end (t-intr-l t) (done z)
  intr-ends F z Q (hid d r) c = hid (h-intr-l d) (intr-ends F z Q r c)
  intr-ends F z Q (act d r) c = act (a-intr-l d) (intr-ends F z Q r c)
  intr-ends F z Q (end t r) c = absurd c

  -- where a term has come to a tick step, no tick was before
  ticks-TickFree : {P : Proc} {s : List Event} → Run B Ticks P s → TickFree s
  ticks-TickFree (done t) = tt
  ticks-TickFree (hid d r) = ticks-TickFree r
  ticks-TickFree (act d r) = ticks-TickFree r
  ticks-TickFree (end t r) = absurd (none r)
    where
      no_ticks : Ticks stop → ⊥
      no_ticks t = elim t [ ]

      none : {u : List Event} → Run B Ticks stop u → ⊥
      none (done t) = no_ticks t
      none (hid d r) = elim d [ ]
      none (act d r) = elim d [ ]
      none (end t r) = elim t [ ]

  -- ---- every failure has a run
  module _ (ρ : ℕ → List Event → Type 0) (φ : ℕ → List Event → Refusal → Type 0)
      (f : (k : ℕ) (u : List Event) → ρ k u → Run B Any (name k) u)
      (g : (k : ℕ) (u : List Event) (X : Refusal) → φ k u X → Run B (Refuses B X) (name k) u) where
    -- a run to a term that can tick
    to-tick : (P : Proc) (s : List Event) → TrIn ρ P (s ++ tick ∷ []) → Run B Ticks P s
    to-tick P s h = run-ticks B (Tr-run B ρ f P (s ++ tick ∷ []) h) s refl

    pub Fl-run : (P : Proc) (u : List Event) (X : Refusal) → FlIn ρ φ P u X → Run B (Refuses B X) P u
    Fl-run stop [] X h = done (stop-Refuses X)
    Fl-run stop (x ∷ u) X h = absurd h
    Fl-run skip [] X h = done (inr (t-skip, h))
    Fl-run skip (x ∷ u) X (e, e') =
        subst (λ y. Run B (Refuses B X) skip (y ∷ u)) (sym e) (end t-skip (subst (λ v. Run B (Refuses B X) stop v) (sym e') (done (stop-Refuses X))))
    Fl-run (prefix a P) [] X h = done (prefix-Refuses X a P h)
    Fl-run (prefix a P) (x ∷ u) X (e, h) =
        subst (λ y. Run B (Refuses B X) (prefix a P) (y ∷ u)) (sym e) (act a-prefix (Fl-run P u X h))
    Fl-run (ext P Q) [] X (inl (h, k)) =
        ext-run (Refuses B X) (Refuses B X) (Refuses B X) (ext-Refuses X) (Fl-run P [] X h) (Fl-run Q [] X k)
    Fl-run (ext P Q) [] X (inr (c, inl h)) =
        ext-run Ticks Any (Refuses B X) (λ P' Q' t e. inr (t-ext-l t, c)) (to-tick P [] h) (done tt)
    Fl-run (ext P Q) [] X (inr (c, inr h)) =
        ext-run Any Ticks (Refuses B X) (λ P' Q' e t. inr (t-ext-r t, c)) (done tt) (to-tick Q [] h)
    Fl-run (ext P Q) (x ∷ u) X (inl h) = ext-l-run B (Refuses B X) Q (Fl-run P (x ∷ u) X h)
    Fl-run (ext P Q) (x ∷ u) X (inr h) = ext-r-run B (Refuses B X) P (Fl-run Q (x ∷ u) X h)
    Fl-run (int P Q) u X (inl h) = hid h-int-l (Fl-run P u X h)
    Fl-run (int P Q) u X (inr h) = hid h-int-r (Fl-run Q u X h)
    Fl-run (seq P Q) u X (inl (c, h)) =
        seq-run B (Refuses B (with_tick X)) (Refuses B X) Q (seq-Refuses X Q) (Fl-run P u (with_tick X) h) c
    Fl-run (seq P Q) u X (inr (s, t, e, c, h, k)) =
        subst (λ v. Run B (Refuses B X) (seq P Q) v) (sym e) (seq-run-then B (Refuses B X) (to-tick P s h) (Fl-run Q t X k))
    Fl-run (par A P Q) u X (s, t, Y, Z, h, k, m, e, o) =
        par-run B A (Refuses B Y) (Refuses B Z) (Refuses B X) (par-Refuses A X Y Z e o) (stop-Refuses X) (Fl-run P s Y h) (Fl-run Q t Z k) m
    Fl-run (hide A P) u X (s, h, x) =
        hide-run B (Refuses B (with_set A X)) (Refuses B X) A (hide-Refuses X A) (stop-Refuses X) (Fl-run P s (with_set A X) h) x
    Fl-run (ren R P) u X (s, h, r) =
        ren-run B (Refuses B (before R X)) (Refuses B X) R (ren-Refuses X R) (stop-Refuses X) (Fl-run P s (before R X) h) r
    Fl-run (intr P Q) u X (inl (c, h, k)) =
        intr-both (Refuses B X) (Refuses B X) (Refuses B X) (intr-Refuses X) (Fl-run P u X h) c (Fl-run Q [] X k)
    Fl-run (intr P Q) u X (inr (inl (c, h))) =
        intr-run B Ticks (Refuses B X) (stop-Refuses X) Q (λ P' t. inr (t-intr-l t, c)) (to-tick P u h)
    Fl-run (intr P Q) u X (inr (inr (inl (s, e, h)))) =
        let r : Run B Ticks P s = run-ticks B (Tr-run B ρ f P u h) s e in
        subst (λ v. Run B (Refuses B X) (intr P Q) v) (sym e) (intr-ends (Refuses B X) (stop-Refuses X) Q r (ticks-TickFree r))
    Fl-run (intr P Q) u X (inr (inr (inr (inl (s, t, x, e, c, h, k))))) =
        subst (λ v. Run B (Refuses B X) (intr P Q) v) (sym e) (intr-run-then B (Refuses B X) (Tr-run B ρ f P s h) c (Fl-run Q (x ∷ t) X k))
    Fl-run (intr P Q) u X (inr (inr (inr (inr (e, c, h, k))))) =
        intr-both Any Ticks (Refuses B X) (λ P' Q' d t. inr (t-intr-r t, e)) (Tr-run B ρ f P u h) c (to-tick Q [] k)
    Fl-run (name k) u X h = g k u X h

  pub NameFl-run : (n k : ℕ) (u : List Event) (X : Refusal) → NameFl B n k u X → Run B (Refuses B X) (name k) u
  NameFl-run zero k u X h = absurd h
  NameFl-run (suc n) k u X h = hid (h-name refl) (Fl-run (NameTr B n) (NameFl B n) (NameTr-run B n) (NameFl-run n) (B k) u X h)

  pub failure-run : (P : Proc) (u : List Event) (X : Refusal) → Failure B P u X → Run B (Refuses B X) P u
  failure-run P u X (n, h) = Fl-run (NameTr B n) (NameFl B n) (NameTr-run B n) (NameFl-run n) P u X h
