use Rattle.std.proofs.Common.{length, take}
use Rattle.targets.specs.Among.{Joined}
use Rattle.nodes.specs.Looks.{look, AllBelow}
use Rattle.nodes.proofs.table.Table.join.Given as goal

abbrev pub invariant-loop-number : goal.invariant-loop-number
invariant-loop-number g l = record {
  here : AllBelow (length l.self.processes) l.into.items;
  joined : Joined l.most (look l.self.processes l.initial.into.items) (look l.self.processes (take l.number-index l.numbers)) (look l.self.processes l.into.items);
}
