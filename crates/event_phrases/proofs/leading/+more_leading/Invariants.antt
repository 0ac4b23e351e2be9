use Rattle.std.proofs.Common.{length}
use Rattle.event_phrases.proofs.leading.+more_leading.Given as goal

abbrev pub decreases-more_leading : goal.decreases-more_leading
decreases-more_leading g l = length l.fields.now
