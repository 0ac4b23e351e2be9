use Rattle.std.proofs.Common.{◌≤◌, length, take}
use Rattle.term.specs.Limits.{most_states}
use Rattle.term.specs.Proc.{bodies_of}
use Rattle.targets.specs.declared.labels.Label.TheVariants as label
use Rattle.targets.specs.Cuts.{CutOf}
use Rattle.nodes.specs.Looks.{look, AllBelow}
use Rattle.keeping.specs.Kept.{StaysKept}
use Rattle.tau_closures.specs.Closing.{TargetOf}
use Rattle.tau_closures.proofs.closing.first_level.Given as goal

abbrev pub invariant-loop-number : goal.invariant-loop-number
invariant-loop-number g l = record {
  kept : StaysKept l.fn.states l.states;
  here : AllBelow (length l.states.all.table.processes) l.first;
  cut : CutOf (TargetOf (bodies_of l.spec.bodies) (look l.fn.states.all.table.processes (take l.number-index l.numbers)) (label.Event l.event)) most_states (look l.states.all.table.processes l.first);
  few : length (look l.states.all.table.processes l.first) ≤ most_states;
}
