use Rattle.std.proofs.Common.{length, take}
use Rattle.term.specs.Proc.{bodies_of}
use Rattle.targets.specs.declared.labels.Label.TheVariants as label
use Rattle.nodes.specs.Looks.{look, AllBelow}
use Rattle.keeping.specs.Kept.{StaysKept}
use Rattle.tau_closures.proofs.KeptFirst.{IsKeptStart}
use Rattle.tau_closures.proofs.kept.first_kept.Given as goal

abbrev pub invariant-loop-number : goal.invariant-loop-number
invariant-loop-number g l = record {
  kept : StaysKept l.fn.states l.states;
  here : AllBelow (length l.states.all.table.processes) l.first;
  start : IsKeptStart (bodies_of l.spec.bodies) l.fn.states.deep (label.Event l.event) (look l.fn.states.all.table.processes (take l.number-index l.numbers)) (look l.states.all.table.processes l.first);
}
