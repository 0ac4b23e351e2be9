use Rattle.std.proofs.Common.{◌≡◌, ◌+◌, ◌*◌, drop}
use Rattle.cspm_values.specs.Values.{row_of}
use Rattle.cspm_values.specs.Limits.{are_within}
use Rattle.cspm_values.specs.View.{values}
use Rattle.cspm_values.proofs.height.+height.Given as goal

abbrev pub decreases-is_within : goal.decreases-is_within
decreases-is_within g l = 2 * l.levels

abbrev pub decreases-are_within : goal.decreases-are_within
decreases-are_within g l = 2 * l.levels + 1

abbrev pub invariant-are_within-loop-value : goal.invariant-are_within-loop-value
invariant-are_within-loop-value g l = are_within l.levels (row_of (values (drop l.value-index l.values))) ≡ are_within l.levels (row_of (values l.values))
