use Rattle.std.proofs.Common.{map, ap, ◌∙◌, arith}
use Rattle.std.proofs.lemmas.List.{length-map}
use Rattle.syntax.specs.View.{shapes}
use Rattle.values.specs.Tables.{input}
use Rattle.values.specs.View.{value, values}
use Rattle.values.proofs.Lists.{none_left}
use Rattle.denotation.specs.Places.{waiting, innermost_first, from_place}
use Rattle.denotation.specs.Walks.{visits_from}
use Rattle.denotation.proofs.Places.{no_items, popped, by_last, none_last, value_next, all_gone, one_back}
use Rattle.denotation.proofs.walk.next_value.Goals as goal

pub returns-in-Some : goal.returns-in-Some
returns-in-Some g c =
    let q = c.loop-value.generator in
    λ s. value_next s (map input c.loop-value.inputs.items) q.name.now (values q.left) (shapes q.inner.now) (innermost_first c.loop-value.outer.items)
    (visits_from s (map input c.args.inputs.items) (waiting c.args.generator) (innermost_first c.args.outer.items)) (c.loop-value.invariant s)
    (value c.in-Some.value) (map value c.pop_first.new.self.keys) (from_place s c.in_ok-at_value.field-0) (ap (map value) c.in-Some.ensures.removal) (c.in_ok-at_value.ensures s)

pub returns-in-None : goal.returns-in-None
returns-in-None g c =
    let q = c.loop-value.generator in
    λ s. all_gone s (map input c.loop-value.inputs.items) q.name.now (values q.left) (shapes q.inner.now) (innermost_first c.loop-value.outer.items)
    (visits_from s (map input c.args.inputs.items) (waiting c.args.generator) (innermost_first c.args.outer.items)) (c.loop-value.invariant s)
    (no_items (values q.left) (length-map q.left.keys value ∙ none_left c.pop_first.result _ c.in_default.is c.pop_first.ensures.variant))
    (none_last waiting c.loop-value.outer.items (let n = none_left c.pop.result _ c.in-None.is c.pop.ensures.variant in omega (arith, n, c.loop-value.outer.ok)))

pub loop-value-preserved : goal.loop-value-preserved
loop-value-preserved g c =
    let q = c.loop-value.generator in
    λ s. one_back s (map input c.loop-value.inputs.items) q.name.now (values q.left) (shapes q.inner.now) (innermost_first c.loop-value.outer.items)
    (visits_from s (map input c.args.inputs.items) (waiting c.args.generator) (innermost_first c.args.outer.items)) (c.loop-value.invariant s)
    (map input c.pop-own.new.self.items) (waiting c.in-Some-pop.before) (innermost_first c.pop.new.self.items)
    (no_items (values q.left) (length-map q.left.keys value ∙ none_left c.pop_first.result _ c.in_default.is c.pop_first.ensures.variant))
    (popped input c.loop-value.inputs.items c.pop-own.new.self.items c.pop-own.result c.pop-own.ensures.items (λ e. let n = none_left c.pop-own.result _ e c.pop-own.ensures.variant in omega (arith, n, c.loop-value.inputs.ok)))
    (by_last waiting c.loop-value.outer.items c.pop.new.self.items c.in-Some-pop.before c.in-Some-pop.ensures.items)
