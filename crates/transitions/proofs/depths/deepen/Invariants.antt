use Rattle.std.proofs.Common.{◌≤◌, ◌+◌, ◌-◌, length}
use Rattle.term.specs.Proc.{bodies_of}
use Rattle.nodes.specs.Looks.{look}
use Rattle.transitions.specs.Unfolding.{AreUnfolded}
use Rattle.transitions.proofs.depths.deepen.Given as goal

abbrev pub invariant-loop-depths : goal.invariant-loop-depths
invariant-loop-depths g l = record {
  few : length l.depths.items ≤ length l.table.processes;
  depths : AreUnfolded (bodies_of (look l.table.processes l.bodies)) l.table.processes l.depths.items;
}

abbrev pub decreases-loop-depths : goal.decreases-loop-depths
decreases-loop-depths g l = l.number + 1 - length l.depths.items
