-- The steps of a process, one rule a constructor, and its runs.
-- Sources stand in brackets: (Roscoe, ..) is The Theory and Practice of Concurrency. What has none is this project's own.
use Rattle.std.specs.Prelude.{◌≡◌, ℕ, Bool, true, false, ◌⊎◌, List, [], ◌∷◌}
use Rattle.term.specs.Events.{Event, tick, ev}
use Rattle.alphabet.specs.EventSets.{Set, has}
use Rattle.term.specs.Traces.{Refusal, Pairs, images, In}
use Rattle.term.specs.Proc.{Proc, stop, skip, prefix, ext, int, seq, par, hide, ren, intr, name}

-- The process is `SKIP` itself.
abbrev pub is_skip : Proc → Bool
is_skip skip = true
is_skip stop = false
is_skip (prefix a P) = false
is_skip (ext P Q) = false
is_skip (int P Q) = false
is_skip (seq P Q) = false
is_skip (par A P Q) = false
is_skip (hide A P) = false
is_skip (ren R P) = false
is_skip (intr P Q) = false
is_skip (name k) = false

-- The process has a step of termination, which always leads to `STOP`.
-- A parallel terminates where both parts are `SKIP`: a part that can terminate turns into `SKIP` first, by a hidden step.
-- (Roscoe, operational semantics; termination of parallel and of interrupt are this project's reading)
pub data Ticks : Proc → Type 0 where
  t-skip : Ticks skip
  t-ext-l : {P Q : Proc} → Ticks P → Ticks (ext P Q)
  t-ext-r : {P Q : Proc} → Ticks Q → Ticks (ext P Q)
  t-par : {A : Set} → Ticks (par A skip skip)
  t-hide : {A : Set} {P : Proc} → Ticks P → Ticks (hide A P)
  t-ren : {R : Pairs} {P : Proc} → Ticks P → Ticks (ren R P)
  t-intr-l : {P Q : Proc} → Ticks P → Ticks (intr P Q)
  t-intr-r : {P Q : Proc} → Ticks Q → Ticks (intr P Q)

-- A step with an event of Sigma: the process, the event, and the process that it leads to.
-- (Roscoe, operational semantics; interrupt by an event of its right part is this project's reading)
pub data Act : Proc → ℕ → Proc → Type 0 where
  a-prefix : {a : ℕ} {P : Proc} → Act (prefix a P) a P
  a-ext-l : {a : ℕ} {P Q P' : Proc} → Act P a P' → Act (ext P Q) a P'
  a-ext-r : {a : ℕ} {P Q Q' : Proc} → Act Q a Q' → Act (ext P Q) a Q'
  a-seq : {a : ℕ} {P Q P' : Proc} → Act P a P' → Act (seq P Q) a (seq P' Q)
  a-par-l : {A : Set} {a : ℕ} {P Q P' : Proc} → has A a ≡ false → Act P a P' → Act (par A P Q) a (par A P' Q)
  a-par-r : {A : Set} {a : ℕ} {P Q Q' : Proc} → has A a ≡ false → Act Q a Q' → Act (par A P Q) a (par A P Q')
  a-par-b : {A : Set} {a : ℕ} {P Q P' Q' : Proc} → has A a ≡ true → Act P a P' → Act Q a Q' → Act (par A P Q) a (par A P' Q')
  a-hide : {A : Set} {a : ℕ} {P P' : Proc} → has A a ≡ false → Act P a P' → Act (hide A P) a (hide A P')
  a-ren : {R : Pairs} {a b : ℕ} {P P' : Proc} → In b (images R a) → Act P a P' → Act (ren R P) b (ren R P')
  a-intr-l : {a : ℕ} {P Q P' : Proc} → Act P a P' → Act (intr P Q) a (intr P' Q)
  a-intr-r : {a : ℕ} {P Q Q' : Proc} → Act Q a Q' → Act (intr P Q) a Q'

-- A hidden step, where B has the bodies of the names. A name becomes its body, an internal choice one of its parts, an
-- external choice and an interrupt stay open, hidden events are hidden steps, and the termination of the first part of a
-- sequence or of one part of a parallel is hidden.
-- (Roscoe, operational semantics)
pub data Hid (B : ℕ → Proc) : Proc → Proc → Type 0 where
  h-int-l : {P Q : Proc} → Hid B (int P Q) P
  h-int-r : {P Q : Proc} → Hid B (int P Q) Q
  h-ext-l : {P Q P' : Proc} → Hid B P P' → Hid B (ext P Q) (ext P' Q)
  h-ext-r : {P Q Q' : Proc} → Hid B Q Q' → Hid B (ext P Q) (ext P Q')
  h-seq : {P Q P' : Proc} → Hid B P P' → Hid B (seq P Q) (seq P' Q)
  h-seq-t : {P Q : Proc} → Ticks P → Hid B (seq P Q) Q
  h-par-l : {A : Set} {P Q P' : Proc} → Hid B P P' → Hid B (par A P Q) (par A P' Q)
  h-par-r : {A : Set} {P Q Q' : Proc} → Hid B Q Q' → Hid B (par A P Q) (par A P Q')
  h-par-tl : {A : Set} {P Q : Proc} → is_skip P ≡ false → Ticks P → Hid B (par A P Q) (par A skip Q)
  h-par-tr : {A : Set} {P Q : Proc} → is_skip Q ≡ false → Ticks Q → Hid B (par A P Q) (par A P skip)
  h-hide : {A : Set} {P P' : Proc} → Hid B P P' → Hid B (hide A P) (hide A P')
  h-hide-a : {A : Set} {a : ℕ} {P P' : Proc} → has A a ≡ true → Act P a P' → Hid B (hide A P) (hide A P')
  h-ren : {R : Pairs} {P P' : Proc} → Hid B P P' → Hid B (ren R P) (ren R P')
  h-intr-l : {P Q P' : Proc} → Hid B P P' → Hid B (intr P Q) (intr P' Q)
  h-intr-r : {P Q Q' : Proc} → Hid B Q Q' → Hid B (intr P Q) (intr P Q')
  h-name : {k : ℕ} {P : Proc} → P ≡ B k → Hid B (name k) P

-- A run: steps from the process, with hidden ones anywhere, whose events are this trace, to a process of which E holds.
pub data Run (B : ℕ → Proc) (E : Proc → Type 0) : Proc → List Event → Type 0 where
  done : {P : Proc} → E P → Run B E P []
  hid : {P P' : Proc} {u : List Event} → Hid B P P' → Run B E P' u → Run B E P u
  act : {a : ℕ} {P P' : Proc} {u : List Event} → Act P a P' → Run B E P' u → Run B E P (ev a ∷ u)
  end : {P : Proc} {u : List Event} → Ticks P → Run B E stop u → Run B E P (tick ∷ u)

-- The process has no hidden step.
abbrev pub Stable : (ℕ → Proc) → Proc → Type 0
Stable B P = (P' : Proc) → Hid B P P' → ⊥

-- The process is at rest and can't terminate, and takes no event of X.
abbrev pub Rests : (ℕ → Proc) → Refusal → Proc → Type 0
Rests B X P = Stable B P × (Ticks P → ⊥) × ((a : ℕ) (P' : Proc) → X (ev a) ≡ true → Act P a P' → ⊥)

-- How the end of a run refuses X: at rest, taking nothing of X; or by its termination, where X lies within Sigma.
-- (Roscoe, stable failures from the operational semantics; what can terminate needn't be at rest is this project's
-- reading, the same as that of `SKIP` in a choice)
abbrev pub Refuses : (ℕ → Proc) → Refusal → Proc → Type 0
Refuses B X P = Rests B X P ⊎ (Ticks P × (X tick ≡ false))
