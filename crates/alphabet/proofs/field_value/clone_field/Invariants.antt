use Rattle.std.proofs.Common.{◌≡◌, map, take, true}
use Rattle.std.specs.List.{list_all}
use Rattle.alphabet.specs.Channels.{is_in_range}
use Rattle.alphabet.specs.Stored.{value_of}
use Rattle.alphabet.proofs.field_value.clone_field.Given as goal

abbrev pub invariant-loop-value : goal.invariant-loop-value
invariant-loop-value g l = record {
  same : map value_of l.copy.items ≡ take l.value-index (map value_of l.field.items);
  ranged : list_all is_in_range (take l.value-index (map value_of l.field.items)) ≡ true;
}
