use Rattle.cspm_values.proofs.Rows.{value_is}
use Rattle.cspm_values.proofs.value.with_parts.Goals as goal

pub returns : goal.returns
returns g c = value_is c.args.head c.args.parts
