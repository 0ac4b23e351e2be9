use Rattle.std.proofs.Common.{◌+◌, ◌*◌}
use Rattle.syntax.specs.View.{shape}
use Rattle.event_phrases.specs.Forms.{set_phrase_of, set_weight}
use Rattle.event_phrases.specs.Shapes.{plain_set}
use Rattle.event_phrases.proofs.sets.+sets.Given as goal

abbrev pub decreases-event_set : goal.decreases-event_set
decreases-event_set g l = 2 * set_weight (set_phrase_of (shape l.tree.now)) + 1

abbrev pub decreases-set_of_phrase : goal.decreases-set_of_phrase
decreases-set_of_phrase g l = 2 * set_weight (plain_set l.phrase)
