use Rattle.std.proofs.Common.{length}
use Rattle.event_phrases.proofs.row.+begins.Given as goal

abbrev pub decreases-begins : goal.decreases-begins
decreases-begins g l = length l.first.now
