use Rattle.values.proofs.ValueSets.{union_more, union_end}
use Rattle.values.proofs.Lists.{none_left}
use Rattle.values.proofs.sets.union.Goals as goal

pub loop-value-preserved : goal.loop-value-preserved
loop-value-preserved g c = union_more c.loop-value.all.keys c.loop-value.more.keys c.pop_first.new.self.keys c.insert.new.self.keys c.in-Some.value _ c.loop-value.invariant c.in-Some.ensures.removal c.in_ok-_added.ensures.keys

pub returns : goal.returns
returns g c = union_end c.loop-value.all.keys c.loop-value.more.keys _ c.loop-value.invariant (none_left c.pop_first.result _ c.in_default.is c.pop_first.ensures.variant)
