-- Sets of states, and what they tell of traces and failures.
use Rattle.std.proofs.Common.{◌≡◌, ℕ, ◌↔◌, List, [], ◌∷◌, ◌++◌, refl, sym, subst}
use Rattle.alphabet.specs.declared.events.Event.{Event}
use Rattle.alphabet.specs.declared.events.Event.TheVariants.{Tick as tick, Of as ev}
use Rattle.term.specs.Traces.{Refusal, In, here}
use Rattle.std.proofs.lemmas.List.{append-nil}
use Rattle.term.specs.Proc.{Proc, bodies_of, root, stop}
use Rattle.term.specs.Meaning.{Trace, Failure}
use Rattle.term.specs.Steps.{Refuses, Run, Ticks, done, hid, end}
use Rattle.term.specs.Specs.{Specified}
use Rattle.term.specs.Limits.{Reach, Advance, Opening, NoLimit}
use Rattle.term.proofs.Reached.{Is, run-cut, run-then, reached-event, reached-more, reached-refuses, reached-tick}
use Rattle.targets.specs.declared.labels.Label.TheVariants as label
use Rattle.targets.specs.Labels.{Step}
use Rattle.tau_closures.specs.declared.fault.AfterFault.{AfterFault}
use Rattle.tau_closures.specs.Belonging.{Belongs, MeetsLimit}
use Rattle.tau_closures.specs.Closing.{Among, TargetOf, IsClosure, Takes}
use Rattle.targets.proofs.Cutting.{only as one-In}
use Rattle.tau_closures.proofs.Renaming.{limit-to, closure-to}

-- a run of tick: hidden steps, termination, and what follows it
run-end-tick : {B : ℕ → Proc} {E : Proc → Type 0} {P : Proc} → Run B E P (tick ∷ []) → (Q : Proc) × Run B (Is Q) P [] × Ticks Q × Run B E stop []
run-end-tick (hid d r) = let (Q, k, t, l) = run-end-tick r in (Q, hid d k, t, l)
run-end-tick (end {P = P} t r) = (P, done refl, t, r)

-- what is reached by one event more, tick among the events
reached-after : (B : ℕ → Proc) (P : Proc) (u : List Event) (x : Event) (R : Proc) → Reach B P (u ++ x ∷ []) R ↔ ((Q S : Proc) × Reach B P u Q × Step B Q (label.Event x) S × Reach B S [] R)
reached-after B P u (ev a) R = reached-more B P u a R
reached-after B P u tick R = (forth, back)
  where
    forth : Reach B P (u ++ tick ∷ []) R → (Q S : Proc) × Reach B P u Q × (Ticks Q × (S ≡ stop)) × Reach B S [] R
    forth r =
        let (M, k, l) = run-cut B r u (tick ∷ []) refl in
        let (Q, h, t, e) = run-end-tick l in
        (Q, stop, subst (λ w. Run B (Is Q) P w) (append-nil u) (run-then B k h), (t, refl), e)

    back : ((Q S : Proc) × Reach B P u Q × (Ticks Q × (S ≡ stop)) × Reach B S [] R) → Reach B P (u ++ tick ∷ []) R
    back (Q, S, r, d, h) =
        let k : Run B (Is R) Q (tick ∷ []) = end d.0 (subst (λ p. Run B (Is R) p []) d.1 h) in
        run-then B r k

-- the set of the empty trace
module _ (s : Specified) where
  open-to : (Q : Proc) → In Q (root ∷ []) → Opening Q
  open-to Q i = one-In i refl

  open-fro : (Q : Proc) → Opening Q → In Q (root ∷ [])
  open-fro Q e = subst (λ P. In P (root ∷ [])) (sym e) here

  pub start-belongs : (ms : List Proc) → IsClosure (bodies_of s.bodies) (Among (root ∷ [])) ms → Belongs s ms []
  start-belongs ms c Q = (
    (λ i. let (P, l, r) = c.only Q i in subst (λ p. Reach (bodies_of s.bodies) p [] Q) (one-In l refl) r),
    (λ r. c.all root Q here r),
  )

  pub start-within : (ms : List Proc) → IsClosure (bodies_of s.bodies) (Among (root ∷ [])) ms → NoLimit (bodies_of s.bodies) Opening
  start-within ms c = (closure-to (bodies_of s.bodies) (Among (root ∷ [])) Opening open-to open-fro ms c).within

  pub start-limit : (e : AfterFault) → MeetsLimit (bodies_of s.bodies) (Among (root ∷ [])) e → MeetsLimit (bodies_of s.bodies) Opening e
  start-limit = limit-to (bodies_of s.bodies) (Among (root ∷ [])) Opening open-to open-fro

module _ (s : Specified) (u : List Event) (qs : List Proc) (b : Belongs s qs u) where
  -- what goes on by an event
  pub takes-trace : (x : Event) → ((Q : Proc) × In Q qs × Takes Q x) ↔ Trace (bodies_of s.bodies) root (u ++ x ∷ [])
  takes-trace tick = (
    (λ (Q, i, t). (reached-tick (bodies_of s.bodies) root u).1 (Q, (b Q).0 i, t)),
    (λ t. let (Q, r, k) = (reached-tick (bodies_of s.bodies) root u).0 t in (Q, (b Q).1 r, k)),
  )
  takes-trace (ev a) = (
    (λ (Q, i, t). (reached-event (bodies_of s.bodies) root u a).1 (Q, (b Q).0 i, t)),
    (λ t. let (Q, r, k) = (reached-event (bodies_of s.bodies) root u a).0 t in (Q, (b Q).1 r, k)),
  )

  -- what is refused
  pub refuses-failure : (X : Refusal) → ((Q : Proc) × In Q qs × Refuses (bodies_of s.bodies) X Q) ↔ Failure (bodies_of s.bodies) root u X
  refuses-failure X = (
    (λ (Q, i, f). (reached-refuses (bodies_of s.bodies) root u X).1 (Q, (b Q).0 i, f)),
    (λ f. let (Q, r, k) = (reached-refuses (bodies_of s.bodies) root u X).0 f in (Q, (b Q).1 r, k)),
  )

  -- the targets of an event from the members, as levels begin with them
  pub advance-to : (x : Event) (Q : Proc) → TargetOf (bodies_of s.bodies) qs (label.Event x) Q → Advance (bodies_of s.bodies) u x Q
  advance-to tick Q (P, i, d) = (P, (b P).0 i, d.0, d.1)
  advance-to (ev a) Q (P, i, d) = (P, (b P).0 i, d)

  pub advance-fro : (x : Event) (Q : Proc) → Advance (bodies_of s.bodies) u x Q → TargetOf (bodies_of s.bodies) qs (label.Event x) Q
  advance-fro tick Q (P, r, t, e) = (P, (b P).1 r, (t, e))
  advance-fro (ev a) Q (P, r, d) = (P, (b P).1 r, d)

  pub advance-limit : (x : Event) (e : AfterFault) → MeetsLimit (bodies_of s.bodies) (TargetOf (bodies_of s.bodies) qs (label.Event x)) e → MeetsLimit (bodies_of s.bodies) (Advance (bodies_of s.bodies) u x) e
  advance-limit x = limit-to (bodies_of s.bodies) (TargetOf (bodies_of s.bodies) qs (label.Event x)) (Advance (bodies_of s.bodies) u x) (advance-to x) (advance-fro x)

  -- a target shows a longer trace, and a longer trace has a target
  pub target-trace : (x : Event) (Q : Proc) → TargetOf (bodies_of s.bodies) qs (label.Event x) Q → Trace (bodies_of s.bodies) root (u ++ x ∷ [])
  target-trace tick Q (P, i, d) = (takes-trace tick).0 (P, i, d.0)
  target-trace (ev a) Q (P, i, d) = (takes-trace (ev a)).0 (P, i, (Q, d))

  pub trace-target : (x : Event) → Trace (bodies_of s.bodies) root (u ++ x ∷ []) → (Q : Proc) × TargetOf (bodies_of s.bodies) qs (label.Event x) Q
  trace-target tick t = let (P, i, k) = (takes-trace tick).1 t in (stop, (P, i, (k, refl)))
  trace-target (ev a) t = let (P, i, (Q, d)) = (takes-trace (ev a)).1 t in (Q, (P, i, d))

  module _ (x : Event) (ms : List Proc) (c : IsClosure (bodies_of s.bodies) (TargetOf (bodies_of s.bodies) qs (label.Event x)) ms) where
    pub advance-within : NoLimit (bodies_of s.bodies) (Advance (bodies_of s.bodies) u x)
    advance-within = (closure-to (bodies_of s.bodies) (TargetOf (bodies_of s.bodies) qs (label.Event x)) (Advance (bodies_of s.bodies) u x) (advance-to x) (advance-fro x) ms c).within

    pub advance-belongs : Belongs s ms (u ++ x ∷ [])
    advance-belongs R = (
      (λ i. let (S, (P, j, d), r) = c.only R i in (reached-after (bodies_of s.bodies) root u x R).1 (P, S, (b P).0 j, d, r)),
      (λ r. let (P, S, k, d, l) = (reached-after (bodies_of s.bodies) root u x R).0 r in c.all S R (P, (b P).1 k, d) l),
    )
