use Rattle.std.proofs.Common.{◌-◌, length}
use Rattle.term.specs.Limits.{most_states}
use Rattle.term.specs.Proc.{bodies_of}
use Rattle.nodes.specs.Looks.{look, AllBelow}
use Rattle.keeping.specs.Kept.{StaysKept}
use Rattle.tau_closures.specs.Closing.{Among, AllLie}
use Rattle.tau_closures.proofs.KeptLevels.{IsKeptPart}
use Rattle.tau_closures.proofs.kept.closed_kept.Given as goal

abbrev pub invariant-loop-from : goal.invariant-loop-from
invariant-loop-from g l = record {
  kept : StaysKept l.fn.states l.states;
  here : AllBelow (length l.states.all.table.processes) l.seen;
  lies : AllLie l.spec (look l.states.all.table.processes l.seen);
  part : IsKeptPart (bodies_of l.spec.bodies) l.fn.states.deep (Among (look l.fn.states.all.table.processes l.fn.first)) ⊥ (look l.states.all.table.processes l.seen) l.from;
}

abbrev pub decreases-loop-from : goal.decreases-loop-from
decreases-loop-from g l = most_states - l.from
