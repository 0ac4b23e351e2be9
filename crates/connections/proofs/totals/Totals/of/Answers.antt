use Rattle.connections.proofs.SoFar.{sum_taken}
use Rattle.connections.proofs.totals.Totals.of.Goals as goal

pub loop-ending-preserved : goal.loop-ending-preserved
loop-ending-preserved c =
    sum_taken c.args.endings.now c.loop-ending.ending-index _ c.loop-ending.totals c.add.new.self c.loop-ending-test.true c.loop-ending.invariant c.add.ensures
