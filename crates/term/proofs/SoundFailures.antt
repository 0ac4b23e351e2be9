-- What a run's last state refuses is a failure.
use Rattle.std.proofs.Common.{◌≡◌, ℕ, suc, Bool, true, false, ◌||◌, inl, inr, List, [], ◌∷◌, ◌++◌, refl, sym, subst, ap, ◌∙◌}
use Rattle.term.specs.Events.{Event, tick, ev}
use Rattle.alphabet.specs.EventSets.{Set, has}
use Rattle.term.specs.Traces.{Refusal, joint, with_tick, with_set, before, images, m-none, m-both, m-left, m-right, x-none, x-out, x-kept, r-none, r-more}
use Rattle.term.specs.Proc.{Proc, stop, skip, prefix, ext, int, seq, par, hide, ren, intr, name}
use Rattle.term.specs.Meaning.{TrIn, FlIn, NameTr, NameFl, Fl, Failure}
use Rattle.term.specs.Steps.{is_skip, Ticks, t-skip, t-ext-l, t-ext-r, t-par, t-hide, t-ren, t-intr-l, t-intr-r, Act, a-prefix, a-ext-l, a-ext-r, a-seq, a-par-l, a-par-r, a-par-b, a-hide, a-ren, a-intr-l, a-intr-r, Hid, h-int-l, h-int-r, h-ext-l, h-ext-r, h-seq, h-seq-t, h-par-l, h-par-r, h-par-tl, h-par-tr, h-hide, h-hide-a, h-ren, h-intr-l, h-intr-r, h-name, Run, done, hid, act, end, Stable, Rests, Refuses}
use Rattle.term.proofs.Bools.{or-same, or-false, or-cases, is_false, true-or-false, not-both}
use Rattle.term.proofs.Decide.{Decided, Offers, Offers-dec, Ticks-dec, some_in-In, skips-tick}
use Rattle.term.proofs.Monotone.{TrIn-nil, NameTr-nil, Tr-more, Fl-more}
use Rattle.term.proofs.SoundTraces.{ticks-Tr, act-Tr, hid-Tr}

module _ (ρ : ℕ → List Event → Type 0) (nil : (k : ℕ) → ρ k []) (φ : ℕ → List Event → Refusal → Type 0) where
  -- before a tick step everything in Sigma is refused
  pub ticks-Fl : {P : Proc} → Ticks P → (X : Refusal) → X tick ≡ false → FlIn ρ φ P [] X
  ticks-Fl t-skip X e = e
  ticks-Fl (t-ext-l d) X e = inr (e, inl (ticks-Tr ρ nil d))
  ticks-Fl (t-ext-r d) X e = inr (e, inr (ticks-Tr ρ nil d))
  ticks-Fl t-par X e = ([], [], X, X, e, e, m-none, (λ x. or-same (X x)), (λ x o. refl))
  ticks-Fl (t-hide {A = A} d) X e = ([], ticks-Fl d (with_set A X) (or-false (X tick) ∙ e), x-none)
  ticks-Fl (t-ren {R = R} d) X e = ([], ticks-Fl d (before R X) e, r-none)
  ticks-Fl (t-intr-l d) X e = inr (inl (e, ticks-Tr ρ nil d))
  ticks-Fl (t-intr-r {P = P} d) X e = inr (inr (inr (inr (e, tt, TrIn-nil ρ nil P, ticks-Tr ρ nil d))))

  -- after one, everything
  pub ticked-Fl : {P : Proc} → Ticks P → (X : Refusal) → FlIn ρ φ P (tick ∷ []) X
  ticked-Fl t-skip X = (refl, refl)
  ticked-Fl (t-ext-l d) X = inl (ticked-Fl d X)
  ticked-Fl (t-ext-r d) X = inr (ticked-Fl d X)
  ticked-Fl t-par X =
      (tick ∷ [], tick ∷ [], X, X, (refl, refl), (refl, refl), m-both refl m-none, (λ x. or-same (X x)), (λ x o. refl))
  ticked-Fl (t-hide {A = A} d) X = (tick ∷ [], ticked-Fl d (with_set A X), x-kept refl x-none)
  ticked-Fl (t-ren {R = R} d) X = (tick ∷ [], ticked-Fl d (before R X), r-more tt r-none)
  ticked-Fl (t-intr-l d) X = inr (inr (inl ([], refl, ticks-of d)))
    where
      ticks-of : {P : Proc} → Ticks P → TrIn ρ P (tick ∷ [])
      ticks-of d = ticks-Tr ρ nil d
  ticked-Fl (t-intr-r {P = P} d) X = inr (inr (inr (inl ([], [], tick, refl, tt, TrIn-nil ρ nil P, ticked-Fl d X))))

  pub skip-Fl : {P : Proc} → Ticks P → (s : List Event) (X : Refusal) → FlIn ρ φ skip s X → FlIn ρ φ P s X
  skip-Fl d [] X h = ticks-Fl d X h
  skip-Fl {P} d (x ∷ u) X (e, e') =
      subst (λ v. FlIn ρ φ P (v ∷ u) X) (sym e) (subst (λ v. FlIn ρ φ P (tick ∷ v) X) (sym e') (ticked-Fl d X))

  pub stop-Fl : {P : Proc} → Ticks P → (u : List Event) (X : Refusal) → FlIn ρ φ stop u X → FlIn ρ φ P (tick ∷ u) X
  stop-Fl d [] X h = ticked-Fl d X
  stop-Fl d (x ∷ u) X h = absurd h

  pub act-Fl : {a : ℕ} {P P' : Proc} → Act P a P' → (u : List Event) (X : Refusal) → FlIn ρ φ P' u X → FlIn ρ φ P (ev a ∷ u) X
  act-Fl a-prefix u X h = (refl, h)
  act-Fl (a-ext-l d) u X h = inl (act-Fl d u X h)
  act-Fl (a-ext-r d) u X h = inr (act-Fl d u X h)
  act-Fl (a-seq d) u X (inl (c, h)) = inl (c, act-Fl d u (with_tick X) h)
  act-Fl (a-seq {a = a} d) u X (inr (s, t, e, c, h, k)) =
      inr (ev a ∷ s, t, ap (λ v. ev a ∷ v) e, c, act-Tr ρ nil d (s ++ tick ∷ []) h, k)
  act-Fl (a-par-l {a = a} n d) u X (s, t, Y, Z, h, k, m, e, o) = (ev a ∷ s, t, Y, Z, act-Fl d s Y h, k, m-left n m, e, o)
  act-Fl (a-par-r {a = a} n d) u X (s, t, Y, Z, h, k, m, e, o) = (s, ev a ∷ t, Y, Z, h, act-Fl d t Z k, m-right n m, e, o)
  act-Fl (a-par-b {a = a} y d d') u X (s, t, Y, Z, h, k, m, e, o) =
      (ev a ∷ s, ev a ∷ t, Y, Z, act-Fl d s Y h, act-Fl d' t Z k, m-both y m, e, o)
  act-Fl (a-hide {A = A} {a = a} n d) u X (s, h, x) = (ev a ∷ s, act-Fl d s (with_set A X) h, x-kept n x)
  act-Fl (a-ren {R = R} {a = a} i d) u X (s, h, r) = (ev a ∷ s, act-Fl d s (before R X) h, r-more i r)
  act-Fl (a-intr-l d) u X (inl (c, h, k)) = inl (c, act-Fl d u X h, k)
  act-Fl (a-intr-l d) u X (inr (inl (c, h))) = inr (inl (c, act-Tr ρ nil d (u ++ tick ∷ []) h))
  act-Fl (a-intr-l {a = a} d) u X (inr (inr (inl (s, e, h)))) = inr (inr (inl (ev a ∷ s, ap (λ v. ev a ∷ v) e, act-Tr ρ nil d u h)))
  act-Fl (a-intr-l {a = a} d) u X (inr (inr (inr (inl (s, t, x, e, c, h, k))))) =
      inr (inr (inr (inl (ev a ∷ s, t, x, ap (λ v. ev a ∷ v) e, c, act-Tr ρ nil d s h, k))))
  act-Fl (a-intr-l d) u X (inr (inr (inr (inr (e, c, h, k))))) = inr (inr (inr (inr (e, c, act-Tr ρ nil d u h, k))))
  act-Fl (a-intr-r {a = a} {P = P} d) u X h = inr (inr (inr (inl ([], u, ev a, refl, tt, TrIn-nil ρ nil P, act-Fl d u X h))))

-- ---- what a term at rest refuses
pick : {T : Type 0} → Decided T → Bool → Bool
pick (inl t) b = false
pick (inr n) b = b

pick-yes : {T : Type 0} (D : Decided T) (b : Bool) → T → pick D b ≡ false
unfolding pick
pick-yes (inl t) b u = refl
pick-yes (inr n) b u = absurd (n u)

pick-no : {T : Type 0} (D : Decided T) (b : Bool) → pick D b ≡ true → T → ⊥
unfolding pick
pick-no (inl t) b e u = not-both e refl
pick-no (inr n) b e u = n u

pick-or : {T U : Type 0} (D : Decided T) (D' : Decided U) (b : Bool) → (T → U → b ≡ true → ⊥) → b ≡ (pick D b || pick D' b)
unfolding pick
pick-or (inl t) (inl u) b h = is_false b (h t u)
pick-or (inl t) (inr m) b h = refl
pick-or (inr n) (inl u) b h = sym (or-false b)
pick-or (inr n) (inr m) b h = or-same b

pick-same : {T U : Type 0} (D : Decided T) (D' : Decided U) (b : Bool) → (T → b ≡ true → ⊥) → (U → b ≡ true → ⊥) → pick D b ≡ pick D' b
unfolding pick
pick-same (inl t) (inl u) b g h = refl
pick-same (inl t) (inr m) b g h = sym (is_false b (g t))
pick-same (inr n) (inl u) b g h = is_false b (h u)
pick-same (inr n) (inr m) b g h = refl

-- the events of X that P doesn't do
less : Proc → Refusal → Refusal
less P X tick = pick (Ticks-dec P) (X tick)
less P X (ev a) = pick (Offers-dec P a) (X (ev a))

module _ (B : ℕ → Proc) (n : ℕ) where
  rest-side : (P : Proc) (X : Refusal) → Stable B P → (is_skip P ≡ false → Ticks P → ⊥) → ((Y : Refusal) → Rests B Y P → Fl B n P [] Y) → Fl B n P [] (less P X)
  unfolding less
  rest-side P X st nt ih =
      elim (Ticks-dec P) [
        | inl t ↦ ticks-Fl (NameTr B n) (NameTr-nil B n) (NameFl B n) t (less P X) (pick-yes (Ticks-dec P) (X tick) t)
        | inr m ↦ ih (less P X) (st, m, (λ a P' e d. pick-no (Offers-dec P a) (X (ev a)) e (P', d)))
      ]

  par-rest-Fl : (A : Set) (P Q : Proc) (X : Refusal) → Rests B X (par A P Q) → ((Y : Refusal) → Rests B Y P → Fl B n P [] Y) → ((Z : Refusal) → Rests B Z Q → Fl B n Q [] Z) → Fl B n (par A P Q) [] X
  unfolding less
  par-rest-Fl A P Q X (st, nt, na) f g = (
    [],
    [],
    less P X,
    less Q X,
    rest-side P X (λ P' d. st (par A P' Q) (h-par-l d)) (λ o t. st (par A skip Q) (h-par-tl o t)) f,
    rest-side Q X (λ Q' d. st (par A P Q') (h-par-r d)) (λ o t. st (par A P skip) (h-par-tr o t)) g,
    m-none,
    union,
    outside,
  )
    where
      not_two : Ticks P → Ticks Q → ⊥
      not_two t t' =
          elim (true-or-false (is_skip P)) [
            | inl e ↦ elim (true-or-false (is_skip Q)) [
              | inl f ↦ nt (skips-tick P Q e f)
              | inr o ↦ st (par A P skip) (h-par-tr o t')
            ]
            | inr o ↦ st (par A skip Q) (h-par-tl o t)
          ]

      not_both : (a : ℕ) → Offers P a → Offers Q a → X (ev a) ≡ true → ⊥
      not_both a (P', d) (Q', d') e =
          elim (true-or-false (has A a)) [
            | inl y ↦ na a (par A P' Q') e (a-par-b y d d')
            | inr m ↦ na a (par A P' Q) e (a-par-l m d)
          ]

      union : (x : Event) → X x ≡ (less P X x || less Q X x)
      union tick = pick-or (Ticks-dec P) (Ticks-dec Q) (X tick) (λ t t' e. not_two t t')
      union (ev a) = pick-or (Offers-dec P a) (Offers-dec Q a) (X (ev a)) (not_both a)

      outside : (x : Event) → joint A x ≡ false → less P X x ≡ less Q X x
      outside tick o = absurd (cc)
      outside (ev a) o =
          pick-same (Offers-dec P a) (Offers-dec Q a) (X (ev a)) (λ (P', d) e. na a (par A P' Q) e (a-par-l o d)) (λ (Q', d) e. na a (par A P Q') e (a-par-r o d))

  hide-rests : (A : Set) (P : Proc) (X : Refusal) → Rests B X (hide A P) → Rests B (with_set A X) P
  hide-rests A P X (st, nt, na) = ((λ P' d. st (hide A P') (h-hide d)), (λ t. nt (t-hide t)), offers)
    where
      offers : (a : ℕ) (P' : Proc) → with_set A X (ev a) ≡ true → Act P a P' → ⊥
      offers a P' e d =
          elim (true-or-false (has A a)) [
            | inl y ↦ st (hide A P') (h-hide-a y d)
            | inr m ↦ elim (or-cases (X (ev a)) (has A a) e) [
              | inl h ↦ na a (hide A P') h (a-hide m d)
              | inr y ↦ not-both y m
            ]
          ]

  rest-Fl : (P : Proc) (X : Refusal) → Rests B X P → Fl B n P [] X
  rest-Fl stop X r = tt
  rest-Fl skip X (st, nt, na) = absurd (nt t-skip)
  rest-Fl (prefix a P) X (st, nt, na) = is_false (X (ev a)) (λ e. na a P e a-prefix)
  rest-Fl (ext P Q) X (st, nt, na) =
      inl (
        rest-Fl P X ((λ P' d. st (ext P' Q) (h-ext-l d)), (λ t. nt (t-ext-l t)), (λ a P' e d. na a P' e (a-ext-l d))),
        rest-Fl Q X ((λ Q' d. st (ext P Q') (h-ext-r d)), (λ t. nt (t-ext-r t)), (λ a Q' e d. na a Q' e (a-ext-r d))),
      )
  rest-Fl (int P Q) X (st, nt, na) = absurd (st P h-int-l)
  rest-Fl (seq P Q) X (st, nt, na) =
      inl (tt, rest-Fl P (with_tick X) ((λ P' d. st (seq P' Q) (h-seq d)), (λ t. st Q (h-seq-t t)), (λ a P' e d. na a (seq P' Q) e (a-seq d))))
  rest-Fl (par A P Q) X r = par-rest-Fl A P Q X r (rest-Fl P) (rest-Fl Q)
  rest-Fl (hide A P) X r = ([], rest-Fl P (with_set A X) (hide-rests A P X r), x-none)
  rest-Fl (ren R P) X (st, nt, na) =
      ([], rest-Fl P (before R X) ((λ P' d. st (ren R P') (h-ren d)), (λ t. nt (t-ren t)), (λ a P' e d. let (b, i, x) = some_in-In (images R a) X e in na b (ren R P') x (a-ren i d))), r-none)
  rest-Fl (intr P Q) X (st, nt, na) =
      inl (
        tt,
        rest-Fl P X ((λ P' d. st (intr P' Q) (h-intr-l d)), (λ t. nt (t-intr-l t)), (λ a P' e d. na a (intr P' Q) e (a-intr-l d))),
        rest-Fl Q X ((λ Q' d. st (intr P Q') (h-intr-r d)), (λ t. nt (t-intr-r t)), (λ a Q' e d. na a Q' e (a-intr-r d))),
      )
  rest-Fl (name k) X (st, nt, na) = absurd (st (B k) (h-name refl))

  pub refuses-Fl : (P : Proc) (X : Refusal) → Refuses B X P → Fl B n P [] X
  refuses-Fl P X (inl r) = rest-Fl P X r
  refuses-Fl P X (inr (t, e)) = ticks-Fl (NameTr B n) (NameTr-nil B n) (NameFl B n) t X e

-- ---- hidden steps
module _ (B : ℕ → Proc) where
  ext-l-Fl : {P P' : Proc} (Q : Proc) → Hid B P P' → (n : ℕ) → ((u : List Event) (X : Refusal) → Fl B n P' u X → Fl B (suc n) P u X) → (u : List Event) (X : Refusal) → Fl B n (ext P' Q) u X → Fl B (suc n) (ext P Q) u X
  ext-l-Fl Q d n f [] X (inl (h, k)) = inl (f [] X h, Fl-more B n Q [] X k)
  ext-l-Fl Q d n f [] X (inr (c, inl h)) = inr (c, inl (hid-Tr B d n (tick ∷ []) h))
  ext-l-Fl Q d n f [] X (inr (c, inr h)) = inr (c, inr (Tr-more B n Q (tick ∷ []) h))
  ext-l-Fl Q d n f (x ∷ u) X (inl h) = inl (f (x ∷ u) X h)
  ext-l-Fl Q d n f (x ∷ u) X (inr h) = inr (Fl-more B n Q (x ∷ u) X h)

  ext-r-Fl : (P : Proc) {Q Q' : Proc} → Hid B Q Q' → (n : ℕ) → ((u : List Event) (X : Refusal) → Fl B n Q' u X → Fl B (suc n) Q u X) → (u : List Event) (X : Refusal) → Fl B n (ext P Q') u X → Fl B (suc n) (ext P Q) u X
  ext-r-Fl P d n f [] X (inl (h, k)) = inl (Fl-more B n P [] X h, f [] X k)
  ext-r-Fl P d n f [] X (inr (c, inl h)) = inr (c, inl (Tr-more B n P (tick ∷ []) h))
  ext-r-Fl P d n f [] X (inr (c, inr h)) = inr (c, inr (hid-Tr B d n (tick ∷ []) h))
  ext-r-Fl P d n f (x ∷ u) X (inl h) = inl (Fl-more B n P (x ∷ u) X h)
  ext-r-Fl P d n f (x ∷ u) X (inr h) = inr (f (x ∷ u) X h)

  pub hid-Fl : {P P' : Proc} → Hid B P P' → (n : ℕ) (u : List Event) (X : Refusal) → Fl B n P' u X → Fl B (suc n) P u X
  hid-Fl (h-int-l {P = P}) n u X h = inl (Fl-more B n P u X h)
  hid-Fl (h-int-r {Q = Q}) n u X h = inr (Fl-more B n Q u X h)
  hid-Fl (h-ext-l {Q = Q} d) n u X h = ext-l-Fl Q d n (hid-Fl d n) u X h
  hid-Fl (h-ext-r {P = P} d) n u X h = ext-r-Fl P d n (hid-Fl d n) u X h
  hid-Fl (h-seq d) n u X (inl (c, h)) = inl (c, hid-Fl d n u (with_tick X) h)
  hid-Fl (h-seq {Q = Q} d) n u X (inr (s, t, e, c, h, k)) = inr (s, t, e, c, hid-Tr B d n (s ++ tick ∷ []) h, Fl-more B n Q t X k)
  hid-Fl (h-seq-t {Q = Q} d) n u X h = inr ([], u, refl, tt, ticks-Tr (NameTr B (suc n)) (NameTr-nil B (suc n)) d, Fl-more B n Q u X h)
  hid-Fl (h-par-l {Q = Q} d) n u X (s, t, Y, Z, h, k, m, e, o) = (s, t, Y, Z, hid-Fl d n s Y h, Fl-more B n Q t Z k, m, e, o)
  hid-Fl (h-par-r {P = P} d) n u X (s, t, Y, Z, h, k, m, e, o) = (s, t, Y, Z, Fl-more B n P s Y h, hid-Fl d n t Z k, m, e, o)
  hid-Fl (h-par-tl {P = P} {Q = Q} p d) n u X (s, t, Y, Z, h, k, m, e, o) =
      (s, t, Y, Z, Fl-more B n P s Y (skip-Fl (NameTr B n) (NameTr-nil B n) (NameFl B n) d s Y h), Fl-more B n Q t Z k, m, e, o)
  hid-Fl (h-par-tr {P = P} {Q = Q} p d) n u X (s, t, Y, Z, h, k, m, e, o) =
      (s, t, Y, Z, Fl-more B n P s Y h, Fl-more B n Q t Z (skip-Fl (NameTr B n) (NameTr-nil B n) (NameFl B n) d t Z k), m, e, o)
  hid-Fl (h-hide {A = A} d) n u X (s, h, x) = (s, hid-Fl d n s (with_set A X) h, x)
  hid-Fl (h-hide-a {A = A} {a = a} {P = P} y d) n u X (s, h, x) =
      (ev a ∷ s, Fl-more B n P (ev a ∷ s) (with_set A X) (act-Fl (NameTr B n) (NameTr-nil B n) (NameFl B n) d s (with_set A X) h), x-out y x)
  hid-Fl (h-ren {R = R} d) n u X (s, h, r) = (s, hid-Fl d n s (before R X) h, r)
  hid-Fl (h-intr-l {Q = Q} d) n u X (inl (c, h, k)) = inl (c, hid-Fl d n u X h, Fl-more B n Q [] X k)
  hid-Fl (h-intr-l d) n u X (inr (inl (c, h))) = inr (inl (c, hid-Tr B d n (u ++ tick ∷ []) h))
  hid-Fl (h-intr-l d) n u X (inr (inr (inl (s, e, h)))) = inr (inr (inl (s, e, hid-Tr B d n u h)))
  hid-Fl (h-intr-l {Q = Q} d) n u X (inr (inr (inr (inl (s, t, x, e, c, h, k))))) =
      inr (inr (inr (inl (s, t, x, e, c, hid-Tr B d n s h, Fl-more B n Q (x ∷ t) X k))))
  hid-Fl (h-intr-l {Q = Q} d) n u X (inr (inr (inr (inr (e, c, h, k))))) =
      inr (inr (inr (inr (e, c, hid-Tr B d n u h, Tr-more B n Q (tick ∷ []) k))))
  hid-Fl (h-intr-r {P = P} d) n u X (inl (c, h, k)) = inl (c, Fl-more B n P u X h, hid-Fl d n [] X k)
  hid-Fl (h-intr-r {P = P} d) n u X (inr (inl (c, h))) = inr (inl (c, Tr-more B n P (u ++ tick ∷ []) h))
  hid-Fl (h-intr-r {P = P} d) n u X (inr (inr (inl (s, e, h)))) = inr (inr (inl (s, e, Tr-more B n P u h)))
  hid-Fl (h-intr-r {P = P} d) n u X (inr (inr (inr (inl (s, t, x, e, c, h, k))))) =
      inr (inr (inr (inl (s, t, x, e, c, Tr-more B n P s h, hid-Fl d n (x ∷ t) X k))))
  hid-Fl (h-intr-r {P = P} d) n u X (inr (inr (inr (inr (e, c, h, k))))) =
      inr (inr (inr (inr (e, c, Tr-more B n P u h, hid-Tr B d n (tick ∷ []) k))))
  hid-Fl (h-name e) n u X h = subst (λ p. FlIn (NameTr B n) (NameFl B n) p u X) e h

  pub run-Fl : (X : Refusal) {P : Proc} {u : List Event} → Run B (Refuses B X) P u → Failure B P u X
  run-Fl X (done {P = P} e) = (0, refuses-Fl B 0 P X e)
  run-Fl X (hid {u = u} d r) = let (n, h) = run-Fl X r in (suc n, hid-Fl d n u X h)
  run-Fl X (act {u = u} d r) = let (n, h) = run-Fl X r in (n, act-Fl (NameTr B n) (NameTr-nil B n) (NameFl B n) d u X h)
  run-Fl X (end {u = u} d r) = let (n, h) = run-Fl X r in (n, stop-Fl (NameTr B n) (NameTr-nil B n) (NameFl B n) d u X h)
