-- Worked examples: what some processes do and refuse by the definitions. The events are a, b and c.
use Rattle.std.specs.Prelude.{ℕ, false, ◌||◌, List, [], ◌∷◌}
use Rattle.alphabet.specs.Events.{is_event}
use Rattle.alphabet.specs.EventSets.{Set}
use Rattle.term.specs.Events.{Event, tick, ev}
use Rattle.term.specs.Traces.{Refusal}
use Rattle.term.specs.Proc.{Proc, stop, skip, prefix, ext, int, seq, par, hide, ren, intr, name}
use Rattle.term.specs.Meaning.{Trace, Failure}

abbrev pub a : ℕ
a = 0

abbrev pub b : ℕ
b = 1

abbrev pub c : ℕ
c = 2

-- the sets {} and {a} of an operator
abbrev pub nothing : Set
nothing = 0

abbrev pub just_a : Set
just_a = 2

-- the refusal of these events
abbrev pub among : List Event → Refusal
among [] x = false
among (y ∷ ys) x = is_event y x || among ys x

-- a -> STOP
abbrev pub once : ℕ → Proc
once e = prefix e stop

-- no definitions
abbrev pub none : ℕ → Proc
none k = stop

-- P = P
abbrev pub itself : ℕ → Proc
itself k = name 0

-- P = a -> P
abbrev pub forever : ℕ → Proc
forever k = prefix a (name 0)

-- P does the trace u; and it doesn't
abbrev pub Does : Proc → List Event → Type 0
Does P u = Trace none P u

abbrev pub Never : Proc → List Event → Type 0
Never P u = Trace none P u → ⊥

-- after u, P refuses these events; and it doesn't
abbrev pub Refusing : Proc → List Event → List Event → Type 0
Refusing P u xs = Failure none P u (among xs)

abbrev pub Taking : Proc → List Event → List Event → Type 0
Taking P u xs = Failure none P u (among xs) → ⊥

-- `a -> STOP |~| b -> STOP` refuses a, and refuses b, but not both.
abbrev pub InternalChoice : Type 0
InternalChoice =
    let P = int (once a) (once b) in
    Refusing P [] (ev a ∷ []) × Refusing P [] (ev b ∷ []) × Taking P [] (ev a ∷ ev b ∷ [])

-- `a -> STOP [] b -> STOP` doesn't refuse a, and refuses c and tick.
abbrev pub ExternalChoice : Type 0
ExternalChoice =
    let P = ext (once a) (once b) in
    Taking P [] (ev a ∷ []) × Refusing P [] (ev c ∷ tick ∷ [])

-- `SKIP [] a -> STOP` may terminate: it refuses a, but not tick. It may also do a.
abbrev pub SkipInChoice : Type 0
SkipInChoice =
    let P = ext skip (once a) in
    Refusing P [] (ev a ∷ []) × Taking P [] (tick ∷ []) × Does P (ev a ∷ [])

-- `SKIP [] P` where P = P refuses all events of Sigma.
abbrev pub SkipBesideLoop : Type 0
SkipBesideLoop = Failure itself (ext skip (name 0)) [] (among (ev a ∷ ev b ∷ ev c ∷ []))

-- P = P refuses nothing, not even the empty set.
abbrev pub Unguarded : Type 0
Unguarded = (X : Refusal) → Failure itself (name 0) [] X → ⊥

-- `P \ {a}` where P = a -> P never comes to rest: it refuses nothing either.
abbrev pub HiddenLoop : Type 0
HiddenLoop = (X : Refusal) → Failure forever (hide just_a (name 0)) [] X → ⊥

-- `SKIP ||| a -> SKIP` refuses tick until it has done a, and doesn't refuse a.
abbrev pub Interleaving : Type 0
Interleaving =
    let P = par nothing skip (prefix a skip) in
    Refusing P [] (tick ∷ []) × Taking P [] (ev a ∷ []) × Never P (tick ∷ []) × Does P (ev a ∷ tick ∷ [])

-- `a -> STOP [| {a} |] STOP` doesn't do a, and refuses a and tick.
abbrev pub Synchronised : Type 0
Synchronised =
    let P = par just_a (once a) stop in
    Never P (ev a ∷ []) × Refusing P [] (ev a ∷ tick ∷ [])

-- `(a -> STOP)[[a <- b, a <- c]]` does b and c and not a; it refuses a, but not b.
abbrev pub Renamed : Type 0
Renamed =
    let P = ren ((a, b) ∷ (a, c) ∷ []) (once a) in
    Does P (ev c ∷ []) × Never P (ev a ∷ []) × Refusing P [] (ev a ∷ []) × Taking P [] (ev b ∷ [])

-- `(a -> SKIP) ; b -> STOP` refuses tick after a, and doesn't refuse b there.
abbrev pub Sequence : Type 0
Sequence =
    let P = seq (prefix a skip) (once b) in
    Refusing P (ev a ∷ []) (tick ∷ []) × Taking P (ev a ∷ []) (ev b ∷ []) × Never P (ev a ∷ tick ∷ [])

-- `a -> STOP /\ b -> STOP` can still do b after a, and then no more; it refuses neither a nor b at first.
abbrev pub Interrupted : Type 0
Interrupted =
    let P = intr (once a) (once b) in
    Does P (ev a ∷ ev b ∷ []) × Refusing P (ev a ∷ ev b ∷ []) (ev a ∷ ev b ∷ tick ∷ []) × Taking P [] (ev a ∷ []) × Taking P [] (ev b ∷ [])
