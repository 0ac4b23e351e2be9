-- To which trace a set of states belongs, and what a fault says of the limits.
use Rattle.std.specs.Prelude.{ℕ, ◌↔◌, List}
use Rattle.alphabet.specs.declared.events.Event.{Event}
use Rattle.term.specs.Traces.{In}
use Rattle.term.specs.Proc.{Proc, bodies_of, root}
use Rattle.term.specs.Specs.{Specified}
use Rattle.term.specs.Limits.{Terms, Reach, IsDepth, IsStates}
use Rattle.tau_closures.specs.declared.fault.AfterFault.{AfterFault}
use Rattle.tau_closures.specs.declared.fault.AfterFault.TheVariants.{Depth, States, Memory}

-- The set belongs to the trace u: its members are just the processes that u reaches from the root, with hidden steps
-- anywhere, also at the end.
abbrev pub Belongs : Specified → List Proc → List Event → Type 0
Belongs spec members u = (Q : Proc) → In Q members ↔ Reach (bodies_of spec.bodies) root u Q

-- The set is one of this specification: it belongs to some trace.
abbrev pub IsSetOf : Specified → List Proc → Type 0
IsSetOf spec members = (u : List Event) × Belongs spec members u

-- What a fault says of the levels that begin with L: which limit the first level past one meets. Want of memory says
-- nothing.
abbrev pub MeetsLimit : (ℕ → Proc) → Terms → AfterFault → Type 0
MeetsLimit B L Depth = IsDepth B L
MeetsLimit B L States = IsStates B L
MeetsLimit B L Memory = Unit {0}
