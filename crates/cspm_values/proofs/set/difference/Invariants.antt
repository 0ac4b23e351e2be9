use Rattle.std.proofs.Common.{◌≡◌, ◌++◌, drop}
use Rattle.cspm_values.specs.Sets.{difference}
use Rattle.cspm_values.specs.View.{values}
use Rattle.cspm_values.proofs.set.difference.Given as goal

abbrev pub invariant-loop-value : goal.invariant-loop-value
invariant-loop-value g l = values l.kept.items ++ difference (values (drop l.value-index l.first)) (values l.second) ≡ difference (values l.first) (values l.second)
