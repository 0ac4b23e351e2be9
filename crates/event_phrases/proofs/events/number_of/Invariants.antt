use Rattle.std.proofs.Common.{◌≡◌, map, drop}
use Rattle.event_phrases.specs.Events.{number_in}
use Rattle.event_phrases.specs.View.{beginning, row}
use Rattle.event_phrases.proofs.EventNumbers.{behind}
use Rattle.event_phrases.proofs.events.number_of.Given as goal

abbrev pub invariant-loop-number : goal.invariant-loop-number
invariant-loop-number g l = number_in (map row l.events) (beginning l.wanted) ≡ behind l.number (number_in (map row (drop l.number l.events)) (beginning l.wanted))
