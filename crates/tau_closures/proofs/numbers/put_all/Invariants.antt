use Rattle.std.proofs.Common.{length, take}
use Rattle.nodes.specs.Looks.{look, AllBelow}
use Rattle.tau_closures.specs.Closing.{HasPut}
use Rattle.tau_closures.proofs.numbers.put_all.Given as goal

abbrev pub invariant-loop-number : goal.invariant-loop-number
invariant-loop-number g l = record {
  here : AllBelow (length l.all.table.processes) l.into;
  put : HasPut (look l.all.table.processes (take l.number-index l.numbers)) (look l.all.table.processes l.initial.into) (look l.all.table.processes l.into);
}
