use Rattle.std.proofs.Common.{map, ap, ◌∙◌, arith}
use Rattle.std.proofs.lemmas.Result.{err_from_is_err_and}
use Rattle.syntax.specs.View.{shape, shapes}
use Rattle.values.specs.Tables.{input}
use Rattle.denotation.specs.Places.{innermost_first, from_place, from_next}
use Rattle.denotation.specs.Walks.{first_scope}
use Rattle.denotation.proofs.Places.{some_visits, arrived, opening_fails, opened_next, opened_none, one_less}
use Rattle.denotation.proofs.Walks.{none_first, some_first}
use Rattle.denotation.proofs.walk.descended.Goals as goal

pub returns-in_err-entered : goal.returns-in_err-entered
returns-in_err-entered g c =
    let s = g.G.GlobalScope.scope c.args.scope.now.global.now in
    let at = c.loop-tree.at in
    let p = err_from_is_err_and c.from_residual.result c.from_residual.ensures.1 in
    rw (p.1, p.2) (opening_fails s (map input at.inputs.items) (innermost_first at.outer.items) (shapes at.inner.now) (first_scope (from_place s c.args.place)) c.loop-tree.invariant (shape c.in-Some.tree.now) (shapes c.in-Some.inner.now) (some_first (shapes at.inner.now) (shape c.in-Some.tree.now) (shapes c.in-Some.inner.now) c.in-Some.ensures) c.in_err-entered.field-0.0 c.in_err-entered.ensures)

pub returns-in-None : goal.returns-in-None
returns-in-None g c =
    let s = g.G.GlobalScope.scope c.args.scope.now.global.now in
    let at = c.loop-tree.at in
    opened_none s (map input at.inputs.items) (innermost_first at.outer.items) (shapes at.inner.now) (first_scope (from_place s c.args.place)) c.loop-tree.invariant (shape c.in-Some.tree.now) (shapes c.in-Some.inner.now) (some_first (shapes at.inner.now) (shape c.in-Some.tree.now) (shapes c.in-Some.inner.now) c.in-Some.ensures)
    (c.in_ok-entered.ensures ∙ ap (λ o. some_visits (from_next s o)) c.in-None.is)

pub loop-tree-smaller : goal.loop-tree-smaller
loop-tree-smaller g c =
    let s = g.G.GlobalScope.scope c.args.scope.now.global.now in
    let at = c.loop-tree.at in
    let e = one_less s (map input at.inputs.items) (innermost_first at.outer.items) (shapes at.inner.now) (first_scope (from_place s c.args.place)) c.loop-tree.invariant (shape c.in-Some.tree.now) (shapes c.in-Some.inner.now) (some_first (shapes at.inner.now) (shape c.in-Some.tree.now) (shapes c.in-Some.inner.now) c.in-Some.ensures) (from_place s c.in-Some-2.next)
    (c.in_ok-entered.ensures ∙ ap (λ o. some_visits (from_next s o)) c.in-Some-2.is) in
    omega (arith, e)

pub loop-tree-preserved : goal.loop-tree-preserved
loop-tree-preserved g c =
    let s = g.G.GlobalScope.scope c.args.scope.now.global.now in
    let at = c.loop-tree.at in
    opened_next s (map input at.inputs.items) (innermost_first at.outer.items) (shapes at.inner.now) (first_scope (from_place s c.args.place)) c.loop-tree.invariant (shape c.in-Some.tree.now) (shapes c.in-Some.inner.now) (some_first (shapes at.inner.now) (shape c.in-Some.tree.now) (shapes c.in-Some.inner.now) c.in-Some.ensures) (from_place s c.in-Some-2.next)
    (c.in_ok-entered.ensures ∙ ap (λ o. some_visits (from_next s o)) c.in-Some-2.is)

pub returns : goal.returns
returns g c =
    let s = g.G.GlobalScope.scope c.args.scope.now.global.now in
    let at = c.loop-tree.at in
    arrived s (map input at.inputs.items) (innermost_first at.outer.items) (shapes at.inner.now) (first_scope (from_place s c.args.place)) c.loop-tree.invariant (none_first (shapes at.inner.now) c.in_default.ensures)
