use Rattle.cspm_values.proofs.Rows.{split_is}
use Rattle.cspm_values.proofs.value.split.Goals as goal

pub returns-in-Of : goal.returns-in-Of
returns-in-Of g c = split_is c.args.value.now c.in-Of.head c.in-Of.parts c.deref.result.now c.in-Of.is c.deref.ensures.value
