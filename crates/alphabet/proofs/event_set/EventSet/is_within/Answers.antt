use Rattle.alphabet.proofs.Sets.{within_by_difference}
use Rattle.alphabet.proofs.event_set.EventSet.is_within.Goals as goal

pub returns : goal.returns
returns c = within_by_difference c.args.self.now c.args.other.now c.minus.result c.is_empty.result c.minus.ensures c.is_empty.ensures
