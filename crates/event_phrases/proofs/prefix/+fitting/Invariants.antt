use Rattle.std.proofs.Common.{length}
use Rattle.event_phrases.proofs.prefix.+fitting.Given as goal

abbrev pub decreases-fitting : goal.decreases-fitting
decreases-fitting g l = length l.fields.now
