use Rattle.alphabet.proofs.Words.{member_with_tick}
use Rattle.alphabet.proofs.event_set.EventSet.with.Goals as goal

pub returns-in-Tick : goal.returns-in-Tick
returns-in-Tick c = rw (c.in-Tick.is, ← c.self.view_is) (member_with_tick c.self.inside.low c.self.inside.high c.self.inside.tick c.self.invariant.0)
