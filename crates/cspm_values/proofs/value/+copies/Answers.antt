use Rattle.cspm_values.proofs.Rows.{same_value}
use Rattle.cspm_values.proofs.value.+copies.Goals as goal

pub copied-returns-in_ok-copies-in-Of : goal.copied-returns-in_ok-copies-in-Of
copied-returns-in_ok-copies-in-Of g t c = same_value c.args.value.now c.in-Of.head c.in_ok-head-in-Of.head c.in-Of.parts c.in_ok-copies-in-Of.copies c.deref.result.now c.in-Of.is c.deref.ensures.value c.in_ok-head-in-Of.ensures c.in_ok-copies-in-Of.ensures
