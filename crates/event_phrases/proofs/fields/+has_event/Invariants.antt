use Rattle.std.proofs.Common.{length}
use Rattle.event_phrases.proofs.fields.+has_event.Given as goal

abbrev pub decreases-has_event : goal.decreases-has_event
decreases-has_event g l = length l.sets.now
