-- Terms as plain values, whatever memory holds them.
use Rattle.std.specs.Prelude.{ℕ, List, get_or}
use Rattle.term.specs.Events.{Event, tick, ev}
use Rattle.alphabet.specs.EventSets.{Set}
use Rattle.term.specs.Traces.{Pairs}
use Rattle.term.specs.declared.terms.Term.{Term}
use Rattle.term.specs.declared.terms.Term.TheVariants.{Stop, Skip, Prefix', Ext', Int', Seq', Par', Hide', Ren', Intr', Name}

-- A process: `STOP`, `SKIP`, `a -> P`, `P [] Q`, `P |~| Q`, `P ; Q`, `P [| A |] Q`, `P \ A`, `P[[R]]`, `P /\ Q`,
-- and the name of a body by its number. An event is given by its number in Sigma.
pub data Proc : Type 0 where
  stop : Proc
  skip : Proc
  prefix : ℕ → Proc → Proc
  ext : Proc → Proc → Proc
  int : Proc → Proc → Proc
  seq : Proc → Proc → Proc
  par : Set → Proc → Proc → Proc
  hide : Set → Proc → Proc
  ren : Pairs → Proc → Proc
  intr : Proc → Proc → Proc
  name : ℕ → Proc

-- A prefix by an event of Sigma. There is none by tick, and what is written so reads as `STOP`.
abbrev pub prefix_of : Event → Proc → Proc
prefix_of tick P = stop
prefix_of (ev a) P = prefix a P

-- The process that a term is.
abbrev pub proc : {A : Type 0} → Term A → Proc
proc Stop = stop
proc Skip = skip
proc (Prefix' e p t) = prefix_of e (proc t)
proc (Ext' p t q u) = ext (proc t) (proc u)
proc (Int' p t q u) = int (proc t) (proc u)
proc (Seq' p t q u) = seq (proc t) (proc u)
proc (Par' A p t q u) = par A (proc t) (proc u)
proc (Hide' A p t) = hide A (proc t)
proc (Ren' r p t) = ren r.items (proc t)
proc (Intr' p t q u) = intr (proc t) (proc u)
proc (Name k) = name k

-- The bodies by number; where there is none, `STOP`.
abbrev pub bodies_of : List Proc → ℕ → Proc
bodies_of ps k = get_or ps k stop

-- The root is the name of body 0.
abbrev pub root : Proc
root = name 0
