use Rattle.alphabet.proofs.Words.{member_minus}
use Rattle.alphabet.proofs.event_set.EventSet.minus.Goals as goal

pub returns : goal.returns
returns c =
    rw (c.of.ensures, c.of-2.ensures, c.bits.ensures, c.bits-2.ensures, c.bits-3.ensures, c.bits-4.ensures, ← c.self.view_is, ← c.other.view_is)
    (member_minus c.self.inside.low c.self.inside.high c.other.inside.low c.other.inside.high c.self.inside.tick c.other.inside.tick c.self.invariant.0 c.self.invariant.1 c.other.invariant.0 c.other.invariant.1)
