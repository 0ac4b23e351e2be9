-- Laws of traces and failures, read off the runs.
use Rattle.std.proofs.Common.{◌≡◌, ℕ, true, false, List, [], ◌∷◌, ◌++◌, inl, inr, refl}
use Rattle.term.specs.Events.{Event, tick, ev}
use Rattle.term.specs.Traces.{Refusal}
use Rattle.term.specs.Proc.{Proc, stop}
use Rattle.term.specs.Meaning.{Trace, Failure}
use Rattle.term.specs.Steps.{Run, done, hid, act, end, Refuses}
use Rattle.term.proofs.Bools.{true-or-false, not-both}
use Rattle.term.proofs.CompleteTraces.{Any, trace-run}
use Rattle.term.proofs.CompleteFailures.{failure-run}
use Rattle.term.proofs.SoundTraces.{run-Tr}
use Rattle.term.proofs.SoundFailures.{run-Fl}
use Rattle.term.proofs.Reached.{run-cut}

module _ (B : ℕ → Proc) where
  stop-end : {E : Proc → Type 0} {u : List Event} → Run B E stop u → u ≡ []
  stop-end (done e) = refl
  stop-end (hid d r) = elim d [ ]
  stop-end (act d r) = elim d [ ]
  stop-end (end d r) = elim d [ ]

  tick-end : {E : Proc → Type 0} {P : Proc} {u : List Event} → Run B E P (tick ∷ u) → u ≡ []
  tick-end (hid d r) = tick-end r
  tick-end (end d r) = stop-end r

  pub tick-last : (P : Proc) (s t : List Event) → Trace B P (s ++ tick ∷ t) → t ≡ []
  tick-last P s t h = let (Q, k, l) = run-cut B (trace-run B P (s ++ tick ∷ t) h) s (tick ∷ t) refl in tick-end l

  any-end : {E : Proc → Type 0} {P : Proc} {u : List Event} → Run B E P u → Run B Any P u
  any-end (done e) = done tt
  any-end (hid d r) = hid d (any-end r)
  any-end (act d r) = act d (any-end r)
  any-end (end d r) = end d (any-end r)

  pub trace-begins : (P : Proc) (s t : List Event) → Trace B P (s ++ t) → Trace B P s
  trace-begins P s t h = let (Q, k, l) = run-cut B (trace-run B P (s ++ t) h) s t refl in run-Tr B k

  pub failure-trace : (P : Proc) (u : List Event) (X : Refusal) → Failure B P u X → Trace B P u
  failure-trace P u X f = run-Tr B (failure-run B P u X f)

  less-false : (X Y : Refusal) → ((x : Event) → Y x ≡ true → X x ≡ true) → X tick ≡ false → Y tick ≡ false
  less-false X Y sub n = elim (true-or-false (Y tick)) [ inl y ↦ absurd (not-both (sub tick y) n) | inr m ↦ m ]

  less-Refuses : (X Y : Refusal) → ((x : Event) → Y x ≡ true → X x ≡ true) → (P : Proc) → Refuses B X P → Refuses B Y P
  less-Refuses X Y sub P (inl (s, t, o)) = inl (s, t, (λ a Q y d. o a Q (sub (ev a) y) d))
  less-Refuses X Y sub P (inr (t, n)) = inr (t, less-false X Y sub n)

  less-run : (X Y : Refusal) → ((x : Event) → Y x ≡ true → X x ≡ true) → {P : Proc} {u : List Event} → Run B (Refuses B X) P u → Run B (Refuses B Y) P u
  less-run X Y sub (done {P = P} e) = done (less-Refuses X Y sub P e)
  less-run X Y sub (hid d r) = hid d (less-run X Y sub r)
  less-run X Y sub (act d r) = act d (less-run X Y sub r)
  less-run X Y sub (end d r) = end d (less-run X Y sub r)

  pub failure-less : (P : Proc) (u : List Event) (X Y : Refusal) → Failure B P u X → ((x : Event) → Y x ≡ true → X x ≡ true) → Failure B P u Y
  failure-less P u X Y f sub = run-Fl B Y (less-run X Y sub (failure-run B P u X f))
