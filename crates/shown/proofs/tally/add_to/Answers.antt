use Rattle.std.proofs.Common.{◌∙◌, ◌&&◌, ◌||◌, not, ap, ap₂, arith}
use Rattle.std.proofs.Math.ListN.{length-set}
use Rattle.alphabet.specs.EventSets.{member}
use Rattle.shown.proofs.Digits.{next_digit}
use Rattle.shown.proofs.tally.add_to.Goals as goal

pub loop-index-preserved : goal.loop-index-preserved
loop-index-preserved c = record {
  same = length-set c.loop-index.digits c.loop-index.index c.union.result ∙ c.loop-index.invariant.same;
  each = λ x. next_digit c.loop-index.digits c.loop-index.index c.index-digits-index.result c.union.result c.loop-index.carry c.minus-carry.result c.index-digits-index.result x
      (omega (arith, c.loop-index-test.true, c.loop-index.invariant.same)) c.index-digits-index.is
      (c.union.ensures x ∙ ap₂ (λ a b. a || b) (c.minus.ensures x) (c.minus-in-loop-index.ensures x))
      (c.minus-carry.ensures x ∙ ap (λ b. member c.loop-index.carry x && not b) (c.minus-in-loop-index-2.ensures x))
      ∙ c.loop-index.invariant.each x;
}
