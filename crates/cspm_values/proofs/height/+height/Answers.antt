use Rattle.std.proofs.Common.{true, false, sym, ◌∙◌, arith}
use Rattle.cspm_values.proofs.Rows.{within_none, within_more, all_within_next, all_within_end}
use Rattle.cspm_values.proofs.height.+height.Goals as goal

pub is_within-returns-then-levels-eq0 : goal.is_within-returns-then-levels-eq0
is_within-returns-then-levels-eq0 g t c = sym (within_none _ _ c.if-levels-eq0.true)

pub is_within-returns : goal.is_within-returns
is_within-returns g t c = c.are_within.ensures ∙ sym (within_more c.args.levels _ _ _ c.if-levels-eq0.false c.split.ensures)

pub are_within-returns-then-not-is_within : goal.are_within-returns-then-not-is_within
are_within-returns-then-not-is_within g t c =
    sym (all_within_next c.args.levels c.args.values.now c.loop-value.value-index c.value-item.result false (omega (arith, c.loop-value-test.true)) c.value-item.is (sym c.is_within.ensures ∙ c.if-not-is_within.true)) ∙ c.loop-value.invariant

pub are_within-loop-value-preserved : goal.are_within-loop-value-preserved
are_within-loop-value-preserved g t c =
    sym (all_within_next c.args.levels c.args.values.now c.loop-value.value-index c.value-item.result true (omega (arith, c.loop-value-test.true)) c.value-item.is (sym c.is_within.ensures ∙ c.if-not-is_within.false)) ∙ c.loop-value.invariant

pub are_within-returns : goal.are_within-returns
are_within-returns g t c = sym (all_within_end c.args.levels c.args.values.now c.loop-value.value-index (omega (arith, c.loop-value-test.false))) ∙ c.loop-value.invariant
