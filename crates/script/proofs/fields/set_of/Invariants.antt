use Rattle.std.proofs.Common.{◌≡◌, map, take}
use Rattle.alphabet.specs.Stored.{value_of}
use Rattle.values.specs.View.{value}
use Rattle.script.proofs.fields.set_of.Given as goal

abbrev pub invariant-loop-value : goal.invariant-loop-value
invariant-loop-value g l = map value l.set.items ≡ map value_of (take l.value-index l.field)
