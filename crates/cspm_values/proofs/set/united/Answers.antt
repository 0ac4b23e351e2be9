use Rattle.std.proofs.Common.{arith, sym, ap, ◌∙◌}
use Rattle.cspm_values.specs.Answers.{gives}
use Rattle.cspm_values.specs.View.{values}
use Rattle.cspm_values.proofs.Turns.{united_more, united_end}
use Rattle.cspm_values.proofs.set.united.Goals as goal

pub loop-set-preserved : goal.loop-set-preserved
loop-set-preserved g c = united_more c.args.sets.now c.loop-set.set-index (values c.loop-set.all.keys) _ c.set-item.result _ _ c.loop-set.invariant (omega (arith, c.loop-set-test.true)) c.set-item.is c.in_ok-members.ensures c.in_ok-all.ensures

pub returns : goal.returns
returns g c =
    united_end c.args.sets.now c.loop-set.set-index (values c.loop-set.all.keys) _ c.loop-set.invariant (omega (arith, c.loop-set-test.false)) ∙ ap (λ vs. gives vs) (sym c.in_ok-listed.ensures)
