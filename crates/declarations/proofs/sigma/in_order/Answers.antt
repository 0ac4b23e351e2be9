use Rattle.values.proofs.Lists.{none_left}
use Rattle.declarations.proofs.Fields.{field_start, field_more, field_end, rising}
use Rattle.declarations.proofs.sigma.in_order.Goals as goal

pub loop-value-init : goal.loop-value-init
loop-value-init g c = field_start c.in_ok-field.field.items c.args.set.keys c.in_ok-field.ensures.items

pub loop-value-preserved : goal.loop-value-preserved
loop-value-preserved g c = field_more c.loop-value.field.items c.push.new.self.items c.loop-value.left.keys c.pop_first.new.self.keys c.field_value.result c.in-Some.value _ c.loop-value.invariant c.in-Some.ensures.removal c.field_value.ensures c.in_ok-push.ensures.items

pub returns-in_err-field-clause-rising : goal.returns-in_err-field-clause-rising
returns-in_err-field-clause-rising g c = rising c.args.set.keys c.len.ensures.ordered

pub returns-in_err-push-clause-rising : goal.returns-in_err-push-clause-rising
returns-in_err-push-clause-rising g c = rising c.args.set.keys c.len.ensures.ordered

pub returns-clause-same : goal.returns-clause-same
returns-clause-same g c = field_end c.loop-value.field.items c.loop-value.left.keys _ c.loop-value.invariant (none_left c.pop_first.result _ c.in_default.is c.pop_first.ensures.variant)

pub returns-clause-rising : goal.returns-clause-rising
returns-clause-rising g c = rising c.args.set.keys c.len.ensures.ordered
