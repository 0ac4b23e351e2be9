use Rattle.std.proofs.Common.{◌≡◌, List, length, take}
use Rattle.term.specs.Proc.{Proc}
use Rattle.nodes.specs.Copies.{ArePlaces}
use Rattle.nodes.specs.Looks.{look, AllBelow}
use Rattle.nodes.proofs.table.Table.numbers_at.Given as goal

abbrev pub invariant-loop-number : goal.invariant-loop-number
invariant-loop-number g l = record {
  below : (ps : List Proc) → ArePlaces l.self ps l.places → AllBelow (length l.self.processes) l.found.items;
  same : (ps : List Proc) → ArePlaces l.self ps l.places → look l.self.processes l.found.items ≡ look ps (take l.number-index l.numbers);
}
