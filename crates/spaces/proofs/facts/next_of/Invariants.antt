use Rattle.std.proofs.Common.{◌↔◌, IsTrue, take}
use Rattle.alphabet.specs.EventSets.{member}
use Rattle.alphabet.specs.declared.events.Event.{Event}
use Rattle.tau_closures.specs.Looks.{look}
use Rattle.term.specs.Proc.{Proc}
use Rattle.term.specs.Traces.{In}
use Rattle.tau_closures.specs.Closing.{Takes}
use Rattle.spaces.proofs.facts.next_of.Given as goal

abbrev pub invariant-loop-number : goal.invariant-loop-number
invariant-loop-number g l = (x : Event) → IsTrue (member l.next x) ↔ ((Q : Proc) × In Q (look l.all.table.processes (take l.number-index l.numbers)) × Takes Q x)
