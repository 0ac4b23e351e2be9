-- The trace of a run is a trace.
use Rattle.std.proofs.Common.{ℕ, suc, inl, inr, List, [], ◌∷◌, ◌++◌, refl, sym, subst, ap}
use Rattle.term.specs.Events.{Event, tick, ev}
use Rattle.term.specs.Traces.{m-none, m-both, m-left, m-right, x-none, x-out, x-kept, r-none, r-more}
use Rattle.term.specs.Proc.{Proc, stop, skip}
use Rattle.term.specs.Meaning.{TrIn, NameTr, Tr, Trace}
use Rattle.term.specs.Steps.{Ticks, t-skip, t-ext-l, t-ext-r, t-par, t-hide, t-ren, t-intr-l, t-intr-r, Act, a-prefix, a-ext-l, a-ext-r, a-seq, a-par-l, a-par-r, a-par-b, a-hide, a-ren, a-intr-l, a-intr-r, Hid, h-int-l, h-int-r, h-ext-l, h-ext-r, h-seq, h-seq-t, h-par-l, h-par-r, h-par-tl, h-par-tr, h-hide, h-hide-a, h-ren, h-intr-l, h-intr-r, h-name, Run, done, hid, act, end}
use Rattle.term.proofs.Monotone.{TrIn-nil, NameTr-nil, Tr-nil, Tr-more}

module _ (ρ : ℕ → List Event → Type 0) (nil : (k : ℕ) → ρ k []) where
  pub ticks-Tr : {P : Proc} → Ticks P → TrIn ρ P (tick ∷ [])
  ticks-Tr t-skip = (refl, refl)
  ticks-Tr (t-ext-l d) = inl (ticks-Tr d)
  ticks-Tr (t-ext-r d) = inr (ticks-Tr d)
  ticks-Tr t-par = (tick ∷ [], tick ∷ [], (refl, refl), (refl, refl), m-both refl m-none)
  ticks-Tr (t-hide d) = (tick ∷ [], ticks-Tr d, x-kept refl x-none)
  ticks-Tr (t-ren d) = (tick ∷ [], ticks-Tr d, r-more tt r-none)
  ticks-Tr (t-intr-l d) = inl (ticks-Tr d)
  ticks-Tr (t-intr-r {P = P} d) = inr ([], tick ∷ [], refl, tt, TrIn-nil ρ nil P, ticks-Tr d)

  pub skip-Tr : {P : Proc} → Ticks P → (s : List Event) → TrIn ρ skip s → TrIn ρ P s
  skip-Tr {P} d [] h = TrIn-nil ρ nil P
  skip-Tr {P} d (x ∷ u) (e, e') =
      subst (λ v. TrIn ρ P (v ∷ u)) (sym e) (subst (λ v. TrIn ρ P (tick ∷ v)) (sym e') (ticks-Tr d))

  pub stop-Tr : {P : Proc} → Ticks P → (u : List Event) → TrIn ρ stop u → TrIn ρ P (tick ∷ u)
  stop-Tr d [] h = ticks-Tr d
  stop-Tr d (x ∷ u) h = absurd h

  pub act-Tr : {a : ℕ} {P P' : Proc} → Act P a P' → (u : List Event) → TrIn ρ P' u → TrIn ρ P (ev a ∷ u)
  act-Tr a-prefix u h = (refl, h)
  act-Tr (a-ext-l d) u h = inl (act-Tr d u h)
  act-Tr (a-ext-r d) u h = inr (act-Tr d u h)
  act-Tr (a-seq d) u (inl (c, h)) = inl (c, act-Tr d u h)
  act-Tr (a-seq {a = a} d) u (inr (s, t, e, c, h, k)) =
      inr (ev a ∷ s, t, ap (λ v. ev a ∷ v) e, c, act-Tr d (s ++ tick ∷ []) h, k)
  act-Tr (a-par-l {a = a} n d) u (s, t, h, k, m) = (ev a ∷ s, t, act-Tr d s h, k, m-left n m)
  act-Tr (a-par-r {a = a} n d) u (s, t, h, k, m) = (s, ev a ∷ t, h, act-Tr d t k, m-right n m)
  act-Tr (a-par-b {a = a} y d d') u (s, t, h, k, m) = (ev a ∷ s, ev a ∷ t, act-Tr d s h, act-Tr d' t k, m-both y m)
  act-Tr (a-hide {a = a} n d) u (s, h, x) = (ev a ∷ s, act-Tr d s h, x-kept n x)
  act-Tr (a-ren {a = a} i d) u (s, h, r) = (ev a ∷ s, act-Tr d s h, r-more i r)
  act-Tr (a-intr-l d) u (inl h) = inl (act-Tr d u h)
  act-Tr (a-intr-l {a = a} d) u (inr (s, t, e, c, h, k)) = inr (ev a ∷ s, t, ap (λ v. ev a ∷ v) e, c, act-Tr d s h, k)
  act-Tr (a-intr-r {a = a} {P = P} d) u h = inr ([], ev a ∷ u, refl, tt, TrIn-nil ρ nil P, act-Tr d u h)

module _ (B : ℕ → Proc) where
  pub hid-Tr : {P P' : Proc} → Hid B P P' → (n : ℕ) (u : List Event) → Tr B n P' u → Tr B (suc n) P u
  hid-Tr (h-int-l {P = P}) n u h = inl (Tr-more B n P u h)
  hid-Tr (h-int-r {Q = Q}) n u h = inr (Tr-more B n Q u h)
  hid-Tr (h-ext-l d) n u (inl h) = inl (hid-Tr d n u h)
  hid-Tr (h-ext-l {Q = Q} d) n u (inr h) = inr (Tr-more B n Q u h)
  hid-Tr (h-ext-r {P = P} d) n u (inl h) = inl (Tr-more B n P u h)
  hid-Tr (h-ext-r d) n u (inr h) = inr (hid-Tr d n u h)
  hid-Tr (h-seq d) n u (inl (c, h)) = inl (c, hid-Tr d n u h)
  hid-Tr (h-seq {Q = Q} d) n u (inr (s, t, e, c, h, k)) = inr (s, t, e, c, hid-Tr d n (s ++ tick ∷ []) h, Tr-more B n Q t k)
  hid-Tr (h-seq-t {Q = Q} d) n u h = inr ([], u, refl, tt, ticks-Tr (NameTr B (suc n)) (NameTr-nil B (suc n)) d, Tr-more B n Q u h)
  hid-Tr (h-par-l {Q = Q} d) n u (s, t, h, k, m) = (s, t, hid-Tr d n s h, Tr-more B n Q t k, m)
  hid-Tr (h-par-r {P = P} d) n u (s, t, h, k, m) = (s, t, Tr-more B n P s h, hid-Tr d n t k, m)
  hid-Tr (h-par-tl {P = P} {Q = Q} o d) n u (s, t, h, k, m) =
      (s, t, Tr-more B n P s (skip-Tr (NameTr B n) (NameTr-nil B n) d s h), Tr-more B n Q t k, m)
  hid-Tr (h-par-tr {P = P} {Q = Q} o d) n u (s, t, h, k, m) =
      (s, t, Tr-more B n P s h, Tr-more B n Q t (skip-Tr (NameTr B n) (NameTr-nil B n) d t k), m)
  hid-Tr (h-hide d) n u (s, h, x) = (s, hid-Tr d n s h, x)
  hid-Tr (h-hide-a {a = a} {P = P} y d) n u (s, h, x) =
      (ev a ∷ s, Tr-more B n P (ev a ∷ s) (act-Tr (NameTr B n) (NameTr-nil B n) d s h), x-out y x)
  hid-Tr (h-ren d) n u (s, h, r) = (s, hid-Tr d n s h, r)
  hid-Tr (h-intr-l d) n u (inl h) = inl (hid-Tr d n u h)
  hid-Tr (h-intr-l {Q = Q} d) n u (inr (s, t, e, c, h, k)) = inr (s, t, e, c, hid-Tr d n s h, Tr-more B n Q t k)
  hid-Tr (h-intr-r {P = P} d) n u (inl h) = inl (Tr-more B n P u h)
  hid-Tr (h-intr-r {P = P} d) n u (inr (s, t, e, c, h, k)) = inr (s, t, e, c, Tr-more B n P s h, hid-Tr d n t k)
  hid-Tr (h-name e) n u h = subst (λ p. TrIn (NameTr B n) p u) e h

  pub run-Tr : {E : Proc → Type 0} {P : Proc} {u : List Event} → Run B E P u → Trace B P u
  run-Tr (done {P = P} e) = (0, Tr-nil B 0 P)
  run-Tr (hid {u = u} d r) = let (n, h) = run-Tr r in (suc n, hid-Tr d n u h)
  run-Tr (act {u = u} d r) = let (n, h) = run-Tr r in (n, act-Tr (NameTr B n) (NameTr-nil B n) d u h)
  run-Tr (end {u = u} d r) = let (n, h) = run-Tr r in (n, stop-Tr (NameTr B n) (NameTr-nil B n) d u h)
