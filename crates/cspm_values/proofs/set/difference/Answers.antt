use Rattle.std.proofs.Common.{arith}
use Rattle.cspm_values.proofs.Members.{left_next, left_end}
use Rattle.cspm_values.proofs.set.difference.Goals as goal

pub loop-value-preserved : goal.loop-value-preserved
loop-value-preserved g c = left_next c.args.first.now c.args.second.now c.in_ok-set.set.keys c.loop-value.value-index c.loop-value.kept.items _ c.in_ok-set.ensures c.value-item.result c.in_ok-kept.kept.items c.has-is_shared.result c.loop-value.invariant (omega (arith, c.loop-value-test.true)) c.value-item.is c.has-is_shared.ensures c.in_ok-kept.ensures

pub returns : goal.returns
returns g c = left_end c.args.first.now c.args.second.now c.in_ok-set.set.keys c.loop-value.value-index c.loop-value.kept.items _ c.in_ok-set.ensures c.loop-value.invariant (omega (arith, c.loop-value-test.false))
