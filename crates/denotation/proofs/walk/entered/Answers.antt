use Rattle.std.proofs.Common.{map}
use Rattle.std.proofs.lemmas.Result.{err_from_is_err_and}
use Rattle.syntax.specs.View.{shape, shapes}
use Rattle.values.specs.Tables.{input}
use Rattle.values.specs.View.{values}
use Rattle.denotation.specs.Places.{innermost_first, from_next}
use Rattle.denotation.specs.Walks.{once_found}
use Rattle.denotation.proofs.Places.{no_name, set_fails, set_found}
use Rattle.syntax.proofs.Failing.{fails_none}
use Rattle.denotation.proofs.walk.entered.Goals as goal

pub returns-in-None : goal.returns-in-None
returns-in-None g c =
    let s = g.G.GlobalScope.scope c.args.scope.now.global.now in
    let is = map input c.args.place.inputs.items in
    let hs = innermost_first c.args.place.outer.items in
    fails_none c.fault.result (once_found s is hs (shapes c.args.inner.now) (shape c.args.tree.now)) (no_name s is hs (shapes c.args.inner.now) (shape c.args.tree.now) c.in-None.ensures)

pub returns-in_err-left-in-Some : goal.returns-in_err-left-in-Some
returns-in_err-left-in-Some g c =
    let s = g.G.GlobalScope.scope c.args.scope.now.global.now in
    let is = map input c.args.place.inputs.items in
    let hs = innermost_first c.args.place.outer.items in
    let p = err_from_is_err_and c.from_residual.result c.from_residual.ensures.1 in
    rw (p.1, p.2) (set_fails s is hs (shapes c.args.inner.now) (shape c.args.tree.now) c.in-Some.name.now (shape c.in-Some.set.now) c.in-Some.ensures c.in_err-left-in-Some.field-0.0 c.in_err-left-in-Some.ensures)

pub returns : goal.returns
returns g c =
    let s = g.G.GlobalScope.scope c.args.scope.now.global.now in
    let is = map input c.args.place.inputs.items in
    let hs = innermost_first c.args.place.outer.items in
    set_found s is hs (shapes c.args.inner.now) (shape c.args.tree.now) c.in-Some.name.now (shape c.in-Some.set.now) c.in-Some.ensures (values c.in_ok-left-in-Some.left) (from_next s c.in_ok-next_value-in-Some.field-0) c.in_ok-left-in-Some.ensures (c.in_ok-next_value-in-Some.ensures s)
