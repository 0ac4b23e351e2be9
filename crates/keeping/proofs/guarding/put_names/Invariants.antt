use Rattle.std.proofs.Common.{◌≡◌, length}
use Rattle.transitions.specs.Numbered.{KeepsNumbers}
use Rattle.keeping.specs.Guarding.{AreNames}
use Rattle.keeping.proofs.guarding.put_names.Given as goal

abbrev pub invariant-loop-name : goal.invariant-loop-name
invariant-loop-name g l = record {
  kept : KeepsNumbers l.fn.all l.all;
  names : AreNames l.all.table l.numbers.items;
  count : length l.numbers.items ≡ l.name;
}
