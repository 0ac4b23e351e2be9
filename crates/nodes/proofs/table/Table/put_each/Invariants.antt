use Rattle.std.proofs.Common.{length, map, take}
use Rattle.targets.specs.Among.{Joined}
use Rattle.nodes.specs.Looks.{look, around, AllBelow}
use Rattle.nodes.specs.Tables.{HasGrown}
use Rattle.nodes.proofs.table.Table.put_each.Given as goal

abbrev pub invariant-loop-part : goal.invariant-loop-part
invariant-loop-part g l = record {
  grown : HasGrown l.initial.self l.self;
  here : AllBelow (length l.self.processes) l.into.items;
  joined : Joined l.most (look l.initial.self.processes l.initial.into.items) (map (around l.initial.self l.place) (look l.initial.self.processes (take l.part-index l.parts))) (look l.self.processes l.into.items);
}
