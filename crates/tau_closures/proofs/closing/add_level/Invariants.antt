use Rattle.std.proofs.Common.{length}
use Rattle.term.specs.Proc.{bodies_of}
use Rattle.nodes.specs.Looks.{look, AllBelow}
use Rattle.keeping.specs.Kept.{StaysKept}
use Rattle.tau_closures.proofs.Expanding.{IsOnTheWay}
use Rattle.tau_closures.proofs.closing.add_level.Given as goal

abbrev pub invariant-loop-place : goal.invariant-loop-place
invariant-loop-place g l = record {
  kept : StaysKept l.fn.states l.states;
  here : AllBelow (length l.states.all.table.processes) l.seen;
  way : IsOnTheWay (bodies_of l.spec.bodies) (look l.fn.states.all.table.processes l.fn.seen) l.from l.place (look l.states.all.table.processes l.seen);
}
