use Rattle.std.proofs.Common.{◌≡◌, ◌++◌, map, length}
use Rattle.alphabet.specs.Stored.{value_of}
use Rattle.values.specs.View.{value, values}
use Rattle.declarations.proofs.sigma.in_order.Given as goal

abbrev pub invariant-loop-value : goal.invariant-loop-value
invariant-loop-value g l = map value_of l.field.items ++ map value l.left.keys ≡ values l.fn.set

abbrev pub decreases-loop-value : goal.decreases-loop-value
decreases-loop-value g l = length l.left.keys
