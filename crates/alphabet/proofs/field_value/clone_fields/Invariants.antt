use Rattle.std.proofs.Common.{◌≡◌, map, take, true}
use Rattle.std.specs.List.{list_all}
use Rattle.alphabet.specs.Channels.{is_in_range}
use Rattle.alphabet.specs.Stored.{field_of}
use Rattle.alphabet.proofs.field_value.clone_fields.Given as goal

abbrev pub invariant-loop-field : goal.invariant-loop-field
invariant-loop-field g l = record {
  same : map field_of l.copy.items ≡ take l.field-index (map field_of l.fields);
  ranged : list_all (list_all is_in_range) (take l.field-index (map field_of l.fields)) ≡ true;
}
