use Rattle.std.proofs.Common.{◌≡◌, length}
use Rattle.nodes.specs.Copies.{ArePlaces}
use Rattle.nodes.specs.Tables.{HasGrown}
use Rattle.nodes.proofs.table.Table.put_wanted.Given as goal

abbrev pub invariant-loop-number : goal.invariant-loop-number
invariant-loop-number g l = record {
  grown : HasGrown l.initial.self l.self;
  count : length l.places.items ≡ l.number;
  places : ArePlaces l.self l.other.processes l.places.items;
}
