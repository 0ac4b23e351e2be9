-- Traces and stable failures of a process. A failure (u, X) says: after the trace u the process can come to rest, or
-- terminate, in such a way that it takes nothing of X.
-- Sources stand in brackets: (Roscoe, ..) is The Theory and Practice of Concurrency. What has none is this project's own.
use Rattle.std.specs.Prelude.{◌≡◌, ℕ, zero, suc, false, ◌||◌, ◌⊎◌, List, [], ◌∷◌, ◌++◌}
use Rattle.term.specs.Events.{Event, tick, ev}
use Rattle.term.specs.Traces.{Refusal, with_tick, with_set, joint, TickFree, Merge, Hidden, Related, before}
use Rattle.term.specs.Proc.{Proc, stop, skip, prefix, ext, int, seq, par, hide, ren, intr, name}

-- The traces of a process, where ρ has those of the names. One entry a form:
-- `STOP` does nothing; `SKIP` terminates; `a -> P` takes a and goes on as P; both choices do what either part does;
-- `P ; Q` does what P does without its tick, and where P terminates, Q goes on; a parallel merges a trace of each part;
-- hiding leaves the events of A out; renaming relates place by place.
-- (Roscoe, The Theory and Practice of Concurrency, traces of each operator; interrupt with termination of either part is
-- this project's reading: what P does, or what P does and then Q, once.)
abbrev pub TrIn : (ℕ → List Event → Type 0) → Proc → List Event → Type 0
TrIn ρ stop [] = Unit {0}
TrIn ρ stop (x ∷ u) = ⊥
TrIn ρ skip [] = Unit {0}
TrIn ρ skip (x ∷ u) = (x ≡ tick) × (u ≡ [])
TrIn ρ (prefix a P) [] = Unit {0}
TrIn ρ (prefix a P) (x ∷ u) = (x ≡ ev a) × TrIn ρ P u
TrIn ρ (ext P Q) u = TrIn ρ P u ⊎ TrIn ρ Q u
TrIn ρ (int P Q) u = TrIn ρ P u ⊎ TrIn ρ Q u
TrIn ρ (seq P Q) u =
    (TickFree u × TrIn ρ P u) ⊎ ((s t : List Event) × (u ≡ s ++ t) × TickFree s × TrIn ρ P (s ++ tick ∷ []) × TrIn ρ Q t)
TrIn ρ (par A P Q) u = (s t : List Event) × TrIn ρ P s × TrIn ρ Q t × Merge A s t u
TrIn ρ (hide A P) u = (s : List Event) × TrIn ρ P s × Hidden A s u
TrIn ρ (ren R P) u = (s : List Event) × TrIn ρ P s × Related R s u
TrIn ρ (intr P Q) u =
    TrIn ρ P u ⊎ ((s t : List Event) × (u ≡ s ++ t) × TickFree s × TrIn ρ P s × TrIn ρ Q t)
TrIn ρ (name k) u = ρ k u

-- The failures of a process, where ρ and φ have the traces and failures of the names. One entry a form.
-- (Roscoe, stable failures of each operator.) This project's readings are three. `SKIP` in an external choice: where a
-- part can terminate at once, the choice may terminate, and then refuses all of Sigma, but not tick. Parallel: it
-- terminates where both parts do, and a part that has terminated waits, refusing all of Sigma. Interrupt: it terminates
-- where either part does, and then refuses as the choice does.
abbrev pub FlIn : (ℕ → List Event → Type 0) → (ℕ → List Event → Refusal → Type 0) → Proc → List Event → Refusal → Type 0
FlIn ρ φ stop [] X = Unit {0}
FlIn ρ φ stop (x ∷ u) X = ⊥
FlIn ρ φ skip [] X = X tick ≡ false
FlIn ρ φ skip (x ∷ u) X = (x ≡ tick) × (u ≡ [])
FlIn ρ φ (prefix a P) [] X = X (ev a) ≡ false
FlIn ρ φ (prefix a P) (x ∷ u) X = (x ≡ ev a) × FlIn ρ φ P u X
-- an external choice rests where both parts do, or terminates where one can
FlIn ρ φ (ext P Q) [] X =
    (FlIn ρ φ P [] X × FlIn ρ φ Q [] X) ⊎ ((X tick ≡ false) × (TrIn ρ P (tick ∷ []) ⊎ TrIn ρ Q (tick ∷ [])))
FlIn ρ φ (ext P Q) (x ∷ u) X = FlIn ρ φ P (x ∷ u) X ⊎ FlIn ρ φ Q (x ∷ u) X
FlIn ρ φ (int P Q) u X = FlIn ρ φ P u X ⊎ FlIn ρ φ Q u X
-- a sequence rests in its first part where that refuses tick too, or in its second
FlIn ρ φ (seq P Q) u X =
    (TickFree u × FlIn ρ φ P u (with_tick X))
    ⊎ ((s t : List Event) × (u ≡ s ++ t) × TickFree s × TrIn ρ P (s ++ tick ∷ []) × FlIn ρ φ Q t X)
-- a parallel refuses X where X is Y and Z together, its parts refuse Y and Z, and these are equal outside A and tick
FlIn ρ φ (par A P Q) u X =
    (s t : List Event) × (Y Z : Refusal) × FlIn ρ φ P s Y × FlIn ρ φ Q t Z × Merge A s t u
    × ((x : Event) → X x ≡ (Y x || Z x)) × ((x : Event) → joint A x ≡ false → Y x ≡ Z x)
-- a hiding rests where its part refuses all of A too, and a renaming where its part refuses all that is related to X
FlIn ρ φ (hide A P) u X = (s : List Event) × FlIn ρ φ P s (with_set A X) × Hidden A s u
FlIn ρ φ (ren R P) u X = (s : List Event) × FlIn ρ φ P s (before R X) × Related R s u
-- an interrupt rests where both parts do, terminates by P, has terminated so, goes on as Q, or terminates by Q
FlIn ρ φ (intr P Q) u X =
    (TickFree u × FlIn ρ φ P u X × FlIn ρ φ Q [] X)
    ⊎ ((X tick ≡ false) × TrIn ρ P (u ++ tick ∷ []))
    ⊎ ((s : List Event) × (u ≡ s ++ tick ∷ []) × TrIn ρ P u)
    ⊎ ((s t : List Event) × (x : Event) × (u ≡ s ++ x ∷ t) × TickFree s × TrIn ρ P s × FlIn ρ φ Q (x ∷ t) X)
    ⊎ ((X tick ≡ false) × TickFree u × TrIn ρ P u × TrIn ρ Q (tick ∷ []))
FlIn ρ φ (name k) u X = φ k u X

-- The traces of the names, where names are unfolded at most n times, one inside the other, by the bodies B.
-- A name that isn't unfolded has the empty trace alone.
abbrev pub NameTr : (ℕ → Proc) → ℕ → ℕ → List Event → Type 0
NameTr B zero k u = u ≡ []
NameTr B (suc n) k u = TrIn (NameTr B n) (B k) u

-- The failures of the names, likewise. A name that isn't unfolded has no failure.
abbrev pub NameFl : (ℕ → Proc) → ℕ → ℕ → List Event → Refusal → Type 0
NameFl B zero k u X = ⊥
NameFl B (suc n) k u X = FlIn (NameTr B n) (NameFl B n) (B k) u X

-- The traces and the failures of a process at n: those with at most n unfoldings.
abbrev pub Tr : (ℕ → Proc) → ℕ → Proc → List Event → Type 0
Tr B n P u = TrIn (NameTr B n) P u

abbrev pub Fl : (ℕ → Proc) → ℕ → Proc → List Event → Refusal → Type 0
Fl B n P u X = FlIn (NameTr B n) (NameFl B n) P u X

-- A trace of the process: one at some n. The meaning of recursion is the union of its unfoldings.
-- (Roscoe, least fixed points of the traces and stable failures models)
abbrev pub Trace : (ℕ → Proc) → Proc → List Event → Type 0
Trace B P u = (n : ℕ) × Tr B n P u

-- A failure of the process: one at some n.
abbrev pub Failure : (ℕ → Proc) → Proc → List Event → Refusal → Type 0
Failure B P u X = (n : ℕ) × Fl B n P u X
