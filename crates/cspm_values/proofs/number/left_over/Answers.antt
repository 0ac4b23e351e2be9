use Rattle.cspm_values.proofs.Bounds.{within, both_stored}
use Rattle.cspm_values.proofs.number.left_over.Goals as goal

pub remainder-requires : goal.remainder-requires
remainder-requires c = both_stored _ _ (within _ _ c.in_ok-first.ensures) (within _ _ c.in_ok-second.ensures)
