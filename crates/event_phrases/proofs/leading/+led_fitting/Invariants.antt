use Rattle.std.proofs.Common.{length}
use Rattle.event_phrases.proofs.leading.+led_fitting.Given as goal

abbrev pub decreases-led_fitting : goal.decreases-led_fitting
decreases-led_fitting g l = length l.leading.now
