use Rattle.std.proofs.Common.{arith}
use Rattle.declared_names.specs.View.{entries}
use Rattle.declared_names.proofs.ProcessAnswers.{may_none, may_more}
use Rattle.declared_names.proofs.process_answers.all_lead_on.Goals as goal

pub loop-place-init : goal.loop-place-init
loop-place-init g c = may_none (entries c.args.entries.now) c.args.found.now

pub loop-place-preserved : goal.loop-place-preserved
loop-place-preserved g c = may_more (entries c.args.entries.now) c.args.found.now c.loop-place.place c.loop-place.invariant (c.may_lead_on.ensures c.if-not-may_lead_on.false)

pub returns : goal.returns
returns g c _ i h = c.loop-place.invariant i (omega (arith, h, c.loop-place-test.false, c.len-place-end.ensures))
