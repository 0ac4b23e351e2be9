use Rattle.cspm_values.proofs.Bounds.{within, both_stored}
use Rattle.cspm_values.proofs.number.divided.Goals as goal

pub quotient-requires : goal.quotient-requires
quotient-requires c = both_stored _ _ (within _ _ c.in_ok-first.ensures) (within _ _ c.in_ok-second.ensures)
