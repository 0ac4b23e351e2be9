use Rattle.std.proofs.Common.{◌≡◌, drop}
use Rattle.cspm_values.specs.Values.{is_among}
use Rattle.cspm_values.specs.View.{value, values}
use Rattle.cspm_values.proofs.order.is_among.Given as goal

abbrev pub invariant-loop-other : goal.invariant-loop-other
invariant-loop-other g l = is_among (value l.value) (values (drop l.other-index l.values)) ≡ is_among (value l.value) (values l.values)
