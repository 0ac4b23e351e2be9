use Rattle.std.proofs.Common.{◌≡◌, ◌++◌, drop}
use Rattle.cspm_values.specs.View.{values}
use Rattle.cspm_values.proofs.making.extended.Given as goal

abbrev pub invariant-loop-value : goal.invariant-loop-value
invariant-loop-value g l = values l.all.items ++ values (drop l.value-index l.more) ≡ values l.fn.values.items ++ values l.more
