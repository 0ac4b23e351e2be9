use Rattle.std.proofs.Common.{arith}
use Rattle.std.proofs.lemmas.Result.{err_from_is_err_and}
use Rattle.values.proofs.Lists.{none_left, listed_start, listed_more, listed_fails, listed_end}
use Rattle.values.proofs.worth.listed.Goals as goal

pub loop-worth-init : goal.loop-worth-init
loop-worth-init g c = listed_start c.args.worths.items c.new-set.result.keys c.new-set.ensures.empty

pub returns-in_err-value : goal.returns-in_err-value
returns-in_err-value g c =
    let p = err_from_is_err_and c.from_residual-in_err-value.result c.from_residual-in_err-value.ensures.1 in
    rw (p.1, p.2) (listed_fails c.in_err-value.field-0.0 c.loop-worth.worths.items c.pop.new.self.items c.in-Some.worth c.loop-worth.set.keys _ c.loop-worth.invariant c.in-Some.ensures.items c.in_err-value.ensures)

pub loop-worth-preserved : goal.loop-worth-preserved
loop-worth-preserved g c = listed_more c.loop-worth.worths.items c.pop.new.self.items c.in-Some.worth c.loop-worth.set.keys c.insert.new.self.keys c.in_ok-value.value _ c.loop-worth.invariant c.in-Some.ensures.items c.in_ok-value.ensures c.in_ok-_added.ensures.keys

pub returns : goal.returns
returns g c = listed_end c.loop-worth.worths.items c.loop-worth.set.keys _ c.loop-worth.invariant (let n = none_left c.pop.result _ c.in_default.is c.pop.ensures.variant in omega (arith, n, c.loop-worth.worths.ok))
