use Rattle.std.proofs.Common.{◌≡◌, drop}
use Rattle.cspm_values.specs.Made.{with_all}
use Rattle.cspm_values.specs.View.{values}
use Rattle.cspm_values.proofs.making.with_all.Given as goal

abbrev pub invariant-loop-value : goal.invariant-loop-value
invariant-loop-value g l = with_all (values l.all.keys) (values (drop l.value-index l.values)) ≡ with_all (values l.fn.set.keys) (values l.values)
