use Rattle.std.proofs.Common.{◌≡◌, map, take}
use Rattle.std.specs.List.{flat_map}
use Rattle.alphabet.specs.Stored.{field_of}
use Rattle.printing.specs.Names.{with_names, constant_in}
use Rattle.printing.specs.View.{bytes}
use Rattle.printing.proofs.names.put_fields.Given as goal

abbrev pub invariant-loop-field : goal.invariant-loop-field
invariant-loop-field g l = bytes l.names.keys ≡ with_names (bytes l.fn.names.keys) (flat_map (flat_map constant_in) (map field_of (take l.field-index l.fields)))
