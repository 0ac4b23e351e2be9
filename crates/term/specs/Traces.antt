-- Traces, refusals, and how the traces of a whole are made from those of its parts.
-- Sources stand in brackets: (Roscoe, ..) is The Theory and Practice of Concurrency. What has none is this project's own.
use Rattle.std.specs.Prelude.{◌≡◌, ℕ, Bool, true, false, ◌||◌, List, [], ◌∷◌, nat_eq}
use Rattle.term.specs.Events.{Event, tick, ev}
use Rattle.alphabet.specs.EventSets.{Set, has}

-- A refusal is a set of events and tick, given by its members.
-- (Roscoe, The Theory and Practice of Concurrency, stable failures)
abbrev pub Refusal : Type 0
Refusal = Event → Bool

-- The events of Sigma in the set. Tick isn't one: no operator hides it or keeps it back.
abbrev pub inside : Set → Event → Bool
inside A tick = false
inside A (ev a) = has A a

-- What both sides of a parallel take together: the events of A, and tick.
-- (Roscoe, generalized parallel; that tick is among them is distributed termination)
abbrev pub joint : Set → Event → Bool
joint A tick = true
joint A (ev a) = has A a

-- The refusal with tick.
abbrev pub with_tick : Refusal → Refusal
with_tick X tick = true
with_tick X (ev a) = X (ev a)

-- The refusal and A together.
abbrev pub with_set : Set → Refusal → Refusal
with_set A X x = X x || inside A x

-- No termination stands in the trace.
abbrev pub TickFree : List Event → Type 0
TickFree [] = Unit {0}
TickFree (tick ∷ s) = ⊥
TickFree (ev a ∷ s) = TickFree s

-- u is a merge of s and t: the events of A and tick are taken by both, all others by one.
-- (Roscoe, traces of generalized parallel)
pub data Merge (A : Set) : List Event → List Event → List Event → Type 0 where
  m-none : Merge A [] [] []
  m-both : {x : Event} {s t u : List Event} → joint A x ≡ true → Merge A s t u → Merge A (x ∷ s) (x ∷ t) (x ∷ u)
  m-left : {x : Event} {s t u : List Event} → joint A x ≡ false → Merge A s t u → Merge A (x ∷ s) t (x ∷ u)
  m-right : {x : Event} {s t u : List Event} → joint A x ≡ false → Merge A s t u → Merge A s (x ∷ t) (x ∷ u)

-- u is s with the events of A left out; tick stays. (Roscoe, traces of hiding)
pub data Hidden (A : Set) : List Event → List Event → Type 0 where
  x-none : Hidden A [] []
  x-out : {x : Event} {s u : List Event} → inside A x ≡ true → Hidden A s u → Hidden A (x ∷ s) u
  x-kept : {x : Event} {s u : List Event} → inside A x ≡ false → Hidden A s u → Hidden A (x ∷ s) (x ∷ u)

-- The pairs of a renaming, in order: from this event to that one.
abbrev pub Pairs : Type 0
Pairs = List (ℕ × ℕ)

-- The right sides of the pairs whose left side is a.
abbrev pub partners : Pairs → ℕ → List ℕ
partners [] a = []
partners (p ∷ ps) a = elim (nat_eq p.0 a) [ true ↦ p.1 ∷ partners ps a | false ↦ partners ps a ]

-- These events; a alone, where there are none.
abbrev pub or_itself : List ℕ → ℕ → List ℕ
or_itself [] a = a ∷ []
or_itself (b ∷ bs) a = b ∷ bs

-- The events to which a is related: all its right sides, or a itself where it is on no left side.
-- (Roscoe, relational renaming; CSPM's rule for events that aren't named)
abbrev pub images : Pairs → ℕ → List ℕ
images R a = or_itself (partners R a) a

-- x stands in the list.
pub data In {A : Type 0} : A → List A → Type 0 where
  here : {x : A} {xs : List A} → In x (x ∷ xs)
  there : {x y : A} {xs : List A} → In x xs → In x (y ∷ xs)

-- x is related to y; tick to tick alone.
abbrev pub IsImage : Pairs → Event → Event → Type 0
IsImage R tick tick = Unit {0}
IsImage R tick (ev b) = ⊥
IsImage R (ev a) tick = ⊥
IsImage R (ev a) (ev b) = In b (images R a)

-- u is as long as s and related to it place by place. (Roscoe, traces of renaming)
pub data Related (R : Pairs) : List Event → List Event → Type 0 where
  r-none : Related R [] []
  r-more : {x y : Event} {s u : List Event} → IsImage R x y → Related R s u → Related R (x ∷ s) (y ∷ u)

-- One of these events is in X.
abbrev pub some_in : List ℕ → Refusal → Bool
some_in [] X = false
some_in (b ∷ bs) X = X (ev b) || some_in bs X

-- What is related to an event of X. (Roscoe, failures of renaming)
abbrev pub before : Pairs → Refusal → Refusal
before R X tick = X tick
before R X (ev a) = some_in (images R a) X
