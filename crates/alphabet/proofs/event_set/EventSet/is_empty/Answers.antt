use Rattle.alphabet.proofs.Sets.{nothing_by_test}
use Rattle.alphabet.proofs.event_set.EventSet.is_empty.Goals as goal

pub returns : goal.returns
returns c = nothing_by_test c.args.self.now c.empty.result c.eq.result c.empty.ensures c.eq.ensures
