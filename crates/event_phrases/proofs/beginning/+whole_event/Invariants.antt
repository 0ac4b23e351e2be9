use Rattle.syntax.specs.View.{shape}
use Rattle.event_phrases.specs.Forms.{event_of, event_weight}
use Rattle.event_phrases.proofs.beginning.+whole_event.Given as goal

abbrev pub decreases-whole_event : goal.decreases-whole_event
decreases-whole_event g l = event_weight (event_of (shape l.tree.now))
