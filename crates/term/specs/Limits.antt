-- What is reached by a trace, and when that is too deep or too much. These definitions say when a limit is met, and
-- have no part in what is a trace or a failure. All of them are this project's own.
use Rattle.std.specs.Prelude.{◌≡◌, ℕ, zero, suc, ◌<◌, ◌⊎◌, List, [], ◌∷◌, length}
use Rattle.term.specs.Events.{Event, tick, ev}
use Rattle.term.specs.Traces.{In}
use Rattle.term.specs.Proc.{Proc, stop, root}
use Rattle.term.specs.Steps.{Act, Hid, Ticks, Run}
use Rattle.term.specs.Sizes.{depth}

-- The greatest depth of a state.
abbrev pub deepest_state : ℕ
deepest_state = 1000

-- The greatest number of states that are kept at once.
abbrev pub most_states : ℕ
most_states = 4096

-- A set of processes, given by its members.
abbrev pub Terms : Type 1
Terms = Proc → Type 0

-- Q is reached from P by a run with the trace u, with hidden steps anywhere, also at the end.
abbrev pub Reach : (ℕ → Proc) → Proc → List Event → Terms
Reach B P u Q = Run B (λ R. R ≡ Q) P u

-- Q is a target of a step with this event, or with tick, from a process of S.
abbrev pub Target : Terms → Event → Terms
Target S tick Q = (P : Proc) × S P × Ticks P × (Q ≡ stop)
Target S (ev a) Q = (P : Proc) × S P × Act P a Q

-- Level 0 is L, and level k + 1 is level k with all hidden targets of its members.
abbrev pub Level : (ℕ → Proc) → Terms → ℕ → Terms
Level B L zero Q = L Q
Level B L (suc k) Q = Level B L k Q ⊎ ((P : Proc) × Level B L k P × Hid B P Q)

-- No process stands twice in the list.
abbrev pub Distinct : List Proc → Type 0
Distinct [] = Unit {0}
Distinct (P ∷ ps) = (In P ps → ⊥) × Distinct ps

-- The set has a member that is too deep.
abbrev pub HasDeep : Terms → Type 0
HasDeep S = (Q : Proc) × S Q × (deepest_state < depth Q)

-- The set has too many members.
abbrev pub HasMany : Terms → Type 0
HasMany S = (qs : List Proc) × Distinct qs × ((Q : Proc) → In Q qs → S Q) × (most_states < length qs)

-- No member of the set is too deep, and it hasn't too many.
abbrev pub IsWithin : Terms → Type 0
IsWithin S = (HasDeep S → ⊥) × (HasMany S → ⊥)

-- No level meets a limit.
abbrev pub NoLimit : (ℕ → Proc) → Terms → Type 0
NoLimit B L = (k : ℕ) → IsWithin (Level B L k)

-- The first level that meets a limit holds a process that is too deep.
abbrev pub IsDepth : (ℕ → Proc) → Terms → Type 0
IsDepth B L = (k : ℕ) × HasDeep (Level B L k) × ((j : ℕ) → j < k → IsWithin (Level B L j))

-- The first level that meets a limit holds too many processes, and none that is too deep.
abbrev pub IsStates : (ℕ → Proc) → Terms → Type 0
IsStates B L = (k : ℕ) × (HasDeep (Level B L k) → ⊥) × HasMany (Level B L k) × ((j : ℕ) → j < k → IsWithin (Level B L j))

-- Where the levels of an opening begin: at the root.
abbrev pub Opening : Terms
Opening Q = Q ≡ root

-- Where the levels of the event x after the trace u begin: at the targets of x from what u reaches.
abbrev pub Advance : (ℕ → Proc) → List Event → Event → Terms
Advance B u x = Target (Reach B root u) x
