use Rattle.std.proofs.Common.{length, take}
use Rattle.term.specs.Proc.{par}
use Rattle.targets.specs.Targets.{pairs_of}
use Rattle.targets.specs.Among.{Joined}
use Rattle.nodes.specs.Shapes.{set_at}
use Rattle.nodes.specs.Looks.{look, AllBelow}
use Rattle.nodes.specs.Tables.{HasGrown}
use Rattle.nodes.proofs.table.Table.put_parallels.Given as goal

abbrev pub invariant-loop-left : goal.invariant-loop-left
invariant-loop-left g l = record {
  grown : HasGrown l.initial.self l.self;
  here : AllBelow (length l.self.processes) l.into.items;
  joined : Joined l.most (look l.initial.self.processes l.initial.into.items) (pairs_of (par (set_at l.initial.self.parameters l.set)) (look l.initial.self.processes (take l.left-index l.lefts)) (look l.initial.self.processes l.rights)) (look l.self.processes l.into.items);
}
