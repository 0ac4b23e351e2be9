use Rattle.std.proofs.Common.{◌≡◌, ◌++◌, length}
use Rattle.cspm_values.specs.View.{values}
use Rattle.cspm_values.proofs.making.listed.Given as goal

abbrev pub invariant-loop-value : goal.invariant-loop-value
invariant-loop-value g l = values l.values.items ++ values l.rest.keys ≡ values l.fn.set.keys

abbrev pub decreases-loop-value : goal.decreases-loop-value
decreases-loop-value g l = length l.rest.keys
