use Rattle.std.proofs.Common.{rules, arith, ◌<◌, sym, ◌∙◌}
use Rattle.std.specs.declared.cmp.Ordering.TheVariants.{Less, Equal, Greater}
use Rattle.cspm_values.specs.Values.{row_of}
use Rattle.cspm_values.specs.View.{value, values}
use Rattle.cspm_values.proofs.Rows.{weight, weights, weight_is, weight_in, order_turn}
use Rattle.cspm_values.proofs.order.+order.Goals as goal

pub compare-compare_all-requires : goal.compare-compare_all-requires
compare-compare_all-requires g t c κs within =
    let m : weights (row_of (values c.split.result.1.now)) < weight (value c.args.first.now) = omega (arith, weight_is _ _ _ c.split.ensures) in
    search (rules, m)

pub compare_all-compare-requires : goal.compare_all-compare-requires
compare_all-compare-requires g t c κs within =
    let m : weight (value c.index-first-index.result) < weights (row_of (values c.args.first.now)) = weight_in c.args.first.now c.loop-index.index c.index-first-index.result c.loop-index-test.true c.index-first-index.is in
    search (rules, m)

pub compare_all-returns-in-Less : goal.compare_all-returns-in-Less
compare_all-returns-in-Less g t c =
    sym (order_turn c.args.first.now c.args.second.now c.loop-index.index c.index-first-index.result c.index-second-index.result c.compare.result Less c.loop-index-test.true c.if-index-second.false c.index-first-index.is c.index-second-index.is c.compare.ensures c.in-Less.is) ∙ c.loop-index.invariant.2

pub compare_all-returns-in-Greater : goal.compare_all-returns-in-Greater
compare_all-returns-in-Greater g t c =
    sym (order_turn c.args.first.now c.args.second.now c.loop-index.index c.index-first-index.result c.index-second-index.result c.compare.result Greater c.loop-index-test.true c.if-index-second.false c.index-first-index.is c.index-second-index.is c.compare.ensures c.in-Greater.is) ∙ c.loop-index.invariant.2

pub compare_all-loop-index-preserved : goal.compare_all-loop-index-preserved
compare_all-loop-index-preserved g t c = (
  omega (arith, c.loop-index-test.true),
  omega (arith, c.if-index-second.false),
  sym (order_turn c.args.first.now c.args.second.now c.loop-index.index c.index-first-index.result c.index-second-index.result c.compare.result Equal c.loop-index-test.true c.if-index-second.false c.index-first-index.is c.index-second-index.is c.compare.ensures c.in-Equal.is) ∙ c.loop-index.invariant.2,
)
