-- The terms that runs reach, and what they say of traces and failures.
use Rattle.std.proofs.Common.{◌≡◌, ℕ, List, [], ◌∷◌, ◌++◌, refl, sym, subst, ◌↔◌}
use Rattle.std.proofs.lemmas.List.{append-nil}
use Rattle.term.specs.Events.{Event, tick, ev}
use Rattle.term.specs.Traces.{Refusal, In}
use Rattle.term.specs.Proc.{Proc}
use Rattle.term.specs.Meaning.{Trace, Failure}
use Rattle.term.specs.Steps.{Hid, Ticks, Act, Run, done, hid, act, end, Refuses}
use Rattle.term.specs.Limits.{Reach}
use Rattle.term.proofs.Decide.{Offers}
use Rattle.term.proofs.CompleteTraces.{Any, trace-run}
use Rattle.term.proofs.CompleteFailures.{failure-run}
use Rattle.term.proofs.SoundTraces.{run-Tr}
use Rattle.term.proofs.SoundFailures.{run-Fl}

abbrev pub Is : Proc → Proc → Type 0
Is Q P = P ≡ Q

module _ (B : ℕ → Proc) where
  -- a run's end as a term of its own, and back
  pub run-end : {E : Proc → Type 0} {P : Proc} {u : List Event} → Run B E P u → (Q : Proc) × Run B (Is Q) P u × E Q
  run-end (done {P = P} e) = (P, done refl, e)
  run-end (hid d r) = let (Q, k, e) = run-end r in (Q, hid d k, e)
  run-end (act d r) = let (Q, k, e) = run-end r in (Q, act d k, e)
  run-end (end t r) = let (Q, k, e) = run-end r in (Q, end t k, e)

  -- two runs, one after the other
  pub run-then : {E : Proc → Type 0} {Q : Proc} {v : List Event} {P : Proc} {u : List Event} → Run B (Is Q) P u → Run B E Q v → Run B E P (u ++ v)
  run-then {E} {v} (done e) k = subst (λ p. Run B E p v) (sym e) k
  run-then (hid d r) k = hid d (run-then r k)
  run-then (act d r) k = act d (run-then r k)
  run-then (end t r) k = end t (run-then r k)

  -- a run cut in two
  pub run-cut : {E : Proc → Type 0} {P : Proc} {w : List Event} → Run B E P w → (u v : List Event) → w ≡ u ++ v → (Q : Proc) × Run B (Is Q) P u × Run B E Q v
  run-cut {E} (done {P = P} e) [] v q = (P, done refl, subst (λ w. Run B E P w) q (done e))
  run-cut (done e) (x ∷ u) v q = absurd (cc)
  run-cut (hid d r) u v q = let (Q, k, l) = run-cut r u v q in (Q, hid d k, l)
  run-cut {E} (act {P = P} d r) [] v q = (P, done refl, subst (λ w. Run B E P w) q (act d r))
  run-cut (act {P = P} d r) (x ∷ u) v q =
      let (Q, k, l) = run-cut r u v (cc) in
      (Q, subst (λ y. Run B (Is Q) P (y ∷ u)) (cc) (act d k), l)
  run-cut {E} (end {P = P} t r) [] v q = (P, done refl, subst (λ w. Run B E P w) q (end t r))
  run-cut (end {P = P} t r) (x ∷ u) v q =
      let (Q, k, l) = run-cut r u v (cc) in
      (Q, subst (λ y. Run B (Is Q) P (y ∷ u)) (cc) (end t k), l)

  -- a run of one event: hidden steps, the event, hidden steps
  pub run-event : {E : Proc → Type 0} {P : Proc} {a : ℕ} → Run B E P (ev a ∷ []) → (Q R : Proc) × Run B (Is Q) P [] × Act Q a R × Run B E R []
  run-event (hid d r) = let (Q, R, k, b, l) = run-event r in (Q, R, hid d k, b, l)
  run-event (act {P = P} {P' = R} d r) = (P, R, done refl, d, r)

  pub run-tick : {E : Proc → Type 0} {P : Proc} → Run B E P (tick ∷ []) → (Q : Proc) × Run B (Is Q) P [] × Ticks Q
  run-tick (hid d r) = let (Q, k, t) = run-tick r in (Q, hid d k, t)
  run-tick (end {P = P} t r) = (P, done refl, t)

module _ (B : ℕ → Proc) (P : Proc) (u : List Event) where
  pub reached-refuses : (X : Refusal) → Failure B P u X ↔ ((Q : Proc) × Reach B P u Q × Refuses B X Q)
  reached-refuses X = (
    (λ f. run-end B (failure-run B P u X f)),
    (λ (Q, r, e). run-Fl B X (subst (λ w. Run B (Refuses B X) P w) (append-nil u) (run-then B r (done e)))),
  )

  pub reached-event : (a : ℕ) → Trace B P (u ++ ev a ∷ []) ↔ ((Q : Proc) × Reach B P u Q × Offers Q a)
  reached-event a = (forth, (λ (Q, r, (R, d)). let k : Run B Any Q (ev a ∷ []) = act d (done tt) in run-Tr B (run-then B r k)))
    where
      forth : Trace B P (u ++ ev a ∷ []) → (Q : Proc) × Reach B P u Q × Offers Q a
      forth t =
          let (M, k, l) = run-cut B (trace-run B P (u ++ ev a ∷ []) t) u (ev a ∷ []) refl in
          let (Q, R, h, d, e) = run-event B l in
          (Q, subst (λ w. Run B (Is Q) P w) (append-nil u) (run-then B k h), (R, d))

  pub reached-tick : Trace B P (u ++ tick ∷ []) ↔ ((Q : Proc) × Reach B P u Q × Ticks Q)
  reached-tick = (forth, (λ (Q, r, t). let k : Run B Any Q (tick ∷ []) = end t (done tt) in run-Tr B (run-then B r k)))
    where
      forth : Trace B P (u ++ tick ∷ []) → (Q : Proc) × Reach B P u Q × Ticks Q
      forth t =
          let (M, k, l) = run-cut B (trace-run B P (u ++ tick ∷ []) t) u (tick ∷ []) refl in
          let (Q, h, e) = run-tick B l in
          (Q, subst (λ w. Run B (Is Q) P w) (append-nil u) (run-then B k h), e)

  -- the terms reached by one event more
  pub reached-more : (a : ℕ) (R : Proc) → Reach B P (u ++ ev a ∷ []) R ↔ ((Q S : Proc) × Reach B P u Q × Act Q a S × Reach B S [] R)
  reached-more a R = (forth, (λ (Q, S, r, d, h). run-then B r (act d h)))
    where
      forth : Reach B P (u ++ ev a ∷ []) R → (Q S : Proc) × Reach B P u Q × Act Q a S × Reach B S [] R
      forth r =
          let (M, k, l) = run-cut B r u (ev a ∷ []) refl in
          let (Q, S, h, d, e) = run-event B l in
          (Q, S, subst (λ w. Run B (Is Q) P w) (append-nil u) (run-then B k h), d, e)

-- ---- a list that is closed under hidden steps has all that is reached
module _ (B : ℕ → Proc) (qs : List Proc) (closed : (Q R : Proc) → In Q qs → Hid B Q R → In R qs) where
  pub closed-all : {R P : Proc} → Reach B P [] R → In P qs → In R qs
  closed-all (done e) i = subst (λ q. In q qs) e i
  closed-all (hid {P = P} {P' = Q} d r) i = closed-all r (closed P Q i d)

  -- at the opening
  pub start-all : (root R : Proc) → In root qs → Reach B root [] R → In R qs
  start-all root R i r = closed-all r i

  -- after an event: where all targets of the event from the terms reached before are in the list
  pub advance-all : (root : Proc) (u : List Event) (a : ℕ) → ((Q S : Proc) → Reach B root u Q → Act Q a S → In S qs) → (R : Proc) → Reach B root (u ++ ev a ∷ []) R → In R qs
  advance-all root u a has R r = let (Q, S, k, d, l) = (reached-more B root u a R).0 r in closed-all l (has Q S k d)

-- what hidden steps reach from a term that is reached is reached
pub reached-hid : (B : ℕ → Proc) (P : Proc) (u : List Event) (Q R : Proc) → Reach B P u Q → Hid B Q R → Reach B P u R
reached-hid B P u Q R r d =
    let k : Run B (Is R) Q [] = hid d (done refl) in
    subst (λ w. Run B (Is R) P w) (append-nil u) (run-then B r k)
