use Rattle.std.proofs.Common.{length}
use Rattle.locked.proofs.waiting.+least.Given as goal

abbrev pub decreases-least : goal.decreases-least
decreases-least l = length l.places.now
