use Rattle.std.proofs.Common.{◌-◌, length}
use Rattle.term.specs.Limits.{most_states}
use Rattle.nodes.specs.Looks.{look, AllBelow}
use Rattle.keeping.specs.Kept.{StaysKept}
use Rattle.tau_closures.specs.Closing.{Among}
use Rattle.tau_closures.proofs.Rounds.{IsRound}
use Rattle.tau_closures.proofs.closing.closed.Given as goal

abbrev pub invariant-loop-from : goal.invariant-loop-from
invariant-loop-from g l = record {
  kept : StaysKept l.fn.states l.states;
  here : AllBelow (length l.states.all.table.processes) l.seen;
  round : IsRound l.spec (Among (look l.fn.states.all.table.processes l.fn.first)) (look l.states.all.table.processes l.seen) l.from;
}

abbrev pub decreases-loop-from : goal.decreases-loop-from
decreases-loop-from g l = most_states - l.from
