use Rattle.std.proofs.Common.{arith}
use Rattle.alphabet.proofs.Words.{has_low_by_shift, has_high_by_shift}
use Rattle.alphabet.proofs.event_set.EventSet.contains.Goals as goal

pub returns-then-number-lt128 : goal.returns-then-number-lt128
returns-then-number-lt128 c =
    rw (c.in-Of.is, ← c.self.view_is, c.bits.ensures) (has_low_by_shift c.self.inside.low c.self.inside.high c.self.inside.tick c.in-Of.number (omega arith))

pub returns-else-number-lt128 : goal.returns-else-number-lt128
returns-else-number-lt128 c =
    rw (c.in-Of.is, ← c.self.view_is, c.bits-else-number-lt128.ensures) (has_high_by_shift c.self.inside.low c.self.inside.high c.self.inside.tick c.in-Of.number c.self.invariant.0 (omega arith))
