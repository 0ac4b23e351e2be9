use Rattle.alphabet.proofs.Sets.{numbered_more}
use Rattle.alphabet.proofs.event_set.EventSet.all.Goals as goal

pub loop-number-preserved : goal.loop-number-preserved
loop-number-preserved g c = numbered_more c.loop-number.set c.with-set.result c.loop-number.number c.loop-number.invariant c.with-set.ensures
