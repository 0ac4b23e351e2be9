use Rattle.std.proofs.Common.{map, sym, ap, subst, ◌∙◌, arith}
use Rattle.values.specs.Tables.{input}
use Rattle.values.specs.View.{Gives}
use Rattle.values.proofs.Lists.{none_left}
use Rattle.denotation.specs.Places.{waiting, innermost_first, from_scope, from_next}
use Rattle.denotation.specs.Walks.{first_scope, visits_after}
use Rattle.denotation.proofs.Places.{popped, by_last, none_last, nothing_met, no_generator, next_generator}
use Rattle.denotation.proofs.walk.next_place.Goals as goal

pub returns-in-None : goal.returns-in-None
returns-in-None g c =
    let s = g.G.GlobalScope.scope c.args.scope.now.global.now in
    let is = map input c.args.inputs.items in
    let hs = innermost_first c.args.outer.items in
    nothing_met (visits_after s is hs) (no_generator s is hs (none_last waiting c.args.outer.items (let n = none_left c.pop.result _ c.in-None.is c.pop.ensures.variant in omega (arith, n, c.args.outer.ok))))

pub returns-in-None-2 : goal.returns-in-None-2
returns-in-None-2 g c =
    let s = g.G.GlobalScope.scope c.args.scope.now.global.now in
    let is = map input c.args.inputs.items in
    let hs = innermost_first c.args.outer.items in
    nothing_met (visits_after s is hs)
    (next_generator s is (map input c.pop-own.new.self.items) (waiting c.in-Some.generator) (innermost_first c.pop.new.self.items) hs
    (popped input c.args.inputs.items c.pop-own.new.self.items c.pop-own.result c.pop-own.ensures.items (λ e. let n = none_left c.pop-own.result _ e c.pop-own.ensures.variant in omega (arith, n, c.args.inputs.ok)))
    (by_last waiting c.args.outer.items c.pop.new.self.items c.in-Some.generator c.in-Some.ensures.items)
    ∙ sym (c.in_ok-next_value-in-Some.ensures s) ∙ ap (from_next s) c.in-None-2.is)

pub returns : goal.returns
returns g c =
    let s = g.G.GlobalScope.scope c.args.scope.now.global.now in
    let is = map input c.args.inputs.items in
    let hs = innermost_first c.args.outer.items in
    subst (λ o. Gives (from_scope s) c.descended.result o)
    (ap first_scope
    (sym (ap (from_next s) c.in-Some-2.is) ∙ c.in_ok-next_value-in-Some.ensures s
    ∙ sym (next_generator s is (map input c.pop-own.new.self.items) (waiting c.in-Some.generator) (innermost_first c.pop.new.self.items) hs
    (popped input c.args.inputs.items c.pop-own.new.self.items c.pop-own.result c.pop-own.ensures.items (λ e. let n = none_left c.pop-own.result _ e c.pop-own.ensures.variant in omega (arith, n, c.args.inputs.ok)))
    (by_last waiting c.args.outer.items c.pop.new.self.items c.in-Some.generator c.in-Some.ensures.items))))
    c.descended.ensures
