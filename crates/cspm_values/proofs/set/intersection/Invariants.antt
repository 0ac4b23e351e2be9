use Rattle.std.proofs.Common.{◌≡◌, ◌++◌, drop}
use Rattle.cspm_values.specs.Sets.{intersection}
use Rattle.cspm_values.specs.View.{values}
use Rattle.cspm_values.proofs.set.intersection.Given as goal

abbrev pub invariant-loop-value : goal.invariant-loop-value
invariant-loop-value g l = values l.kept.items ++ intersection (values (drop l.value-index l.first)) (values l.second) ≡ intersection (values l.first) (values l.second)
