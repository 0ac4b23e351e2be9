use Rattle.std.proofs.Common.{arith, ap, ◌∙◌}
use Rattle.cspm_values.specs.Sets.{intersection}
use Rattle.cspm_values.specs.View.{values}
use Rattle.cspm_values.proofs.Turns.{passed_up, shared_more, shared_fails, shared_end}
use Rattle.cspm_values.proofs.set.shared.Goals as goal

pub loop-set-preserved : goal.loop-set-preserved
loop-set-preserved g c = shared_more c.args.sets.now c.loop-set.set-index (values c.loop-set.kept.items) _ c.set-item.result _ (values c.in_ok-kept-2.kept.items) c.loop-set.invariant (omega (arith, c.loop-set-test.true)) c.set-item.is c.in_ok-members.ensures (c.in_ok-kept-2.ensures ∙ ap (λ us. intersection (values us) (values c.in_ok-members.members.now)) c.deref.ensures.value)

pub returns : goal.returns
returns g c = shared_end c.args.sets.now c.loop-set.set-index (values c.loop-set.kept.items) _ c.loop-set.invariant (omega (arith, c.loop-set-test.false))

pub returns-in_err-members : goal.returns-in_err-members
returns-in_err-members g c = passed_up _ c.from_residual-in_err-members.result c.in_err-members.field-0.0 _ c.from_residual-in_err-members.ensures.1 (shared_fails c.args.sets.now c.loop-set.set-index (values c.loop-set.kept.items) _ _ c.set-item.result c.loop-set.invariant (omega (arith, c.loop-set-test.true)) c.set-item.is c.in_err-members.ensures)
