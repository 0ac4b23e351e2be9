use Rattle.std.proofs.Common.{length}
use Rattle.seats.proofs.groups.+add_receipts.Given as goal

abbrev pub decreases-add_receipts : goal.decreases-add_receipts
decreases-add_receipts g l = length l.verdicts.now
