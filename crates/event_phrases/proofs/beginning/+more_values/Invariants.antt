use Rattle.std.proofs.Common.{length}
use Rattle.event_phrases.proofs.beginning.+more_values.Given as goal

abbrev pub decreases-more_values : goal.decreases-more_values
decreases-more_values g l = length l.fields.now
