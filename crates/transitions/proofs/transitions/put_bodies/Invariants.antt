use Rattle.std.proofs.Common.{◌≡◌, length, take}
use Rattle.nodes.specs.Looks.{look, AllBelow}
use Rattle.transitions.proofs.transitions.put_bodies.Given as goal

abbrev pub invariant-loop-place : goal.invariant-loop-place
invariant-loop-place g l = record {
  here : AllBelow (length l.table.processes) l.numbers.items;
  bodies : look l.table.processes l.numbers.items ≡ take l.place l.spec.bodies;
}
