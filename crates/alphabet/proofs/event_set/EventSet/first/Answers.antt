use Rattle.std.proofs.Common.{◌≡◌, ◌∙◌, sym, arith}
use Rattle.alphabet.proofs.Words.{first_low, first_high}
use Rattle.alphabet.proofs.event_set.EventSet.first.Goals as goal

pub returns-then-low-ne0 : goal.returns-then-low-ne0
returns-then-low-ne0 c =
    rw (c.bits-low.ensures, ← c.self.view_is) (first_low c.self.inside.low c.self.inside.high c.self.inside.tick c.self.invariant.0 (omega (arith, c.bits-low.ensures, c.if-low-ne0.true)))

pub returns-then-high-ne0 : goal.returns-then-high-ne0
returns-then-high-ne0 c =
    let e : c.self.inside.low ≡ 0 = sym c.bits-low.ensures ∙ c.if-low-ne0.false in
    rw (c.bits-high.ensures, ← c.self.view_is, e) (first_high c.self.inside.high c.self.inside.tick c.self.invariant.1 (omega (arith, c.bits-high.ensures, c.if-high-ne0.true)))
