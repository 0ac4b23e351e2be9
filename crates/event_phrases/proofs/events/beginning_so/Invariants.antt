use Rattle.std.proofs.Common.{◌≡◌, map}
use Rattle.event_phrases.specs.Events.{at_number, begins_so, set_below}
use Rattle.event_phrases.specs.View.{beginning, row}
use Rattle.event_phrases.proofs.events.beginning_so.Given as goal

abbrev pub invariant-loop-number : goal.invariant-loop-number
invariant-loop-number g l = l.set ≡ set_below l.number (at_number (begins_so (beginning l.first)) (map row l.events))
