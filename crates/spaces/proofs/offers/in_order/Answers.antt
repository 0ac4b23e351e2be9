use Rattle.spaces.proofs.Ordering.{ordered-more}
use Rattle.spaces.proofs.offers.in_order.Goals as goal

pub loop-set-preserved : goal.loop-set-preserved
loop-set-preserved g c =
    let m = ordered-more c.args.sets.now c.loop-set.set-index c.set-item.result c.set-item.is c.loop-set-test.true c.loop-set.ordered.items c.put_in_order.new.into.items c.loop-set.invariant.same c.loop-set.invariant.ordered c.in_ok-put_in_order.ensures in
    record { same = m.0; ordered = m.1 }
