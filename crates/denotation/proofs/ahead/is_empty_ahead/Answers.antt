use Rattle.std.proofs.Common.{map, ◌∙◌, arith}
use Rattle.std.proofs.lemmas.List.{length-map}
use Rattle.syntax.specs.View.{shape}
use Rattle.values.specs.Tables.{input}
use Rattle.values.specs.View.{value, values}
use Rattle.event_phrases.specs.Scopes.{within}
use Rattle.denotation.proofs.Unused.{empty_here, values_here}
use Rattle.denotation.proofs.ahead.is_empty_ahead.Goals as goal

pub returns-then-is_empty : goal.returns-then-is_empty
returns-then-is_empty g c =
    let s = within (g.G.GlobalScope.scope c.args.scope.now.global.now) (map input c.args.scope.now.inputs.items) in
    λ t. empty_here shape c.args.generators.now c.loop-number.number c.index-generators-number.result (omega arith) c.index-generators-number.is s _ c.loop-number.invariant c.in-Some.name.now (shape c.in-Some.set.now) c.in-Some.ensures c.uses.result c.uses.ensures c.if-uses.false (values c.in-Ok.values) c.in-Ok.ensures
    (length-map c.in-Ok.values.keys value ∙ c.is_empty.ensures.0 c.if-is_empty.true)

pub loop-number-preserved : goal.loop-number-preserved
loop-number-preserved g c =
    let s = within (g.G.GlobalScope.scope c.args.scope.now.global.now) (map input c.args.scope.now.inputs.items) in
    λ k. values_here shape c.args.generators.now c.loop-number.number c.index-generators-number.result (omega arith) c.index-generators-number.is s _ c.loop-number.invariant c.in-Some.name.now (shape c.in-Some.set.now) c.in-Some.ensures c.uses.result c.uses.ensures c.if-uses.false (values c.in-Ok.values) c.in-Ok.ensures k
