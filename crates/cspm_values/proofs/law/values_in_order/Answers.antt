use Rattle.cspm_values.proofs.Sorted.{in_order}
use Rattle.cspm_values.proofs.law.values_in_order.Goals as goal

pub returns : goal.returns
returns g = in_order
