use Rattle.std.proofs.Common.{length}
use Rattle.denotation.proofs.choice.+halved.Given as goal

abbrev pub decreases-halved : goal.decreases-halved
decreases-halved g l = length l.drafts.items
