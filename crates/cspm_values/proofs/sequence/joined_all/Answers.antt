use Rattle.std.proofs.Common.{arith}
use Rattle.cspm_values.specs.View.{values}
use Rattle.cspm_values.proofs.Turns.{joined_more, joined_end}
use Rattle.cspm_values.proofs.sequence.joined_all.Goals as goal

pub loop-sequence-preserved : goal.loop-sequence-preserved
loop-sequence-preserved g c = joined_more c.args.sequences.now c.loop-sequence.sequence-index (values c.loop-sequence.all.items) _ c.sequence-item.result _ _ c.loop-sequence.invariant (omega (arith, c.loop-sequence-test.true)) c.sequence-item.is c.in_ok-members.ensures c.in_ok-all.ensures

pub returns : goal.returns
returns g c = joined_end c.args.sequences.now c.loop-sequence.sequence-index (values c.loop-sequence.all.items) _ c.loop-sequence.invariant (omega (arith, c.loop-sequence-test.false))
