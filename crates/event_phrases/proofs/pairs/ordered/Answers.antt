use Rattle.event_phrases.proofs.Images.{event_more}
use Rattle.event_phrases.proofs.pairs.ordered.Goals as goal

pub loop-event-preserved : goal.loop-event-preserved
loop-event-preserved g c = event_more c.args.pairs.now c.args.count c.loop-event.event c.loop-event.ordered.items c.in_ok-ordered.ordered.items c.images-set.result c.loop-event.invariant c.images-set.ensures c.in_ok-ordered.ensures
