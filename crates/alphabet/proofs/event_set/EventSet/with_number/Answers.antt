use Rattle.std.proofs.Common.{◌^◌, ◌*◌, ◌%◌, arith}
use Rattle.std.proofs.lemmas.Nat.{or_lt}
use Rattle.alphabet.proofs.Words.{member_with_low, member_with_high}
use Rattle.alphabet.proofs.event_set.EventSet.with_number.Goals as goal

pub returns-then-number-lt128 : goal.returns-then-number-lt128
returns-then-number-lt128 c =
    let n = or_lt 128 c.self.inside.low (1 * 2 ^ c.args.number % 2 ^ 128) c.self.invariant.0 (omega arith) in
    rw (c.of.ensures, c.bits.ensures, ← c.self.view_is) (member_with_low c.self.inside.low c.self.inside.high c.args.number c.self.inside.tick c.self.invariant.0 (omega arith) n)

pub returns : goal.returns
returns c =
    rw (c.of-2.ensures, c.bits-2.ensures, ← c.self.view_is)
    (member_with_high c.self.inside.low c.self.inside.high c.args.number c.self.inside.tick c.self.invariant.0 (omega arith) (omega arith))
