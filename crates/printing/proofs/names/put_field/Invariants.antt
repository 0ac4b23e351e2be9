use Rattle.std.proofs.Common.{◌≡◌, map, take}
use Rattle.std.specs.List.{flat_map}
use Rattle.alphabet.specs.Stored.{value_of}
use Rattle.printing.specs.Names.{with_names, constant_in}
use Rattle.printing.specs.View.{bytes}
use Rattle.printing.proofs.names.put_field.Given as goal

abbrev pub invariant-loop-value : goal.invariant-loop-value
invariant-loop-value g l = bytes l.names.keys ≡ with_names (bytes l.fn.names.keys) (flat_map constant_in (map value_of (take l.value-index l.field)))
