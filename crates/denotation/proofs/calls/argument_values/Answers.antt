use Rattle.std.proofs.Common.{◌∷◌, [], map, ap, ◌∙◌, arith}
use Rattle.std.proofs.lemmas.List.{map-append}
use Rattle.std.proofs.lemmas.Result.{err_from_is_err_and}
use Rattle.values.specs.Tables.{input}
use Rattle.values.specs.View.{value}
use Rattle.event_phrases.specs.Scopes.{within}
use Rattle.event_phrases.specs.View.{listed}
use Rattle.denotation.proofs.Arguments.{turn_fails, turn_so, turn_last}
use Rattle.denotation.proofs.calls.argument_values.Goals as goal

pub returns-in_err-wanted_value : goal.returns-in_err-wanted_value
returns-in_err-wanted_value g c =
    let known = (within (g.G.GlobalScope.scope c.args.scope.now.global.now) (map input c.args.scope.now.inputs.items)).known in
    let p = err_from_is_err_and c.from_residual-in_err-wanted_value.result c.from_residual-in_err-wanted_value.ensures.1 in
    rw (p.1, p.2) (turn_fails known c.args.phrases.now c.loop-phrase.phrase-index (listed c.loop-phrase.found.items) c.loop-phrase.invariant c.phrase-item.result (omega arith) c.phrase-item.is c.in_err-wanted_value.field-0.0 c.in_err-wanted_value.ensures)

pub loop-phrase-preserved : goal.loop-phrase-preserved
loop-phrase-preserved g c =
    let known = (within (g.G.GlobalScope.scope c.args.scope.now.global.now) (map input c.args.scope.now.inputs.items)).known in
    turn_so known c.args.phrases.now c.loop-phrase.phrase-index (listed c.loop-phrase.found.items) c.loop-phrase.invariant c.phrase-item.result (omega arith) c.phrase-item.is (value c.in_ok-wanted_value.field-0) (listed c.push.new.self.items) c.in_ok-wanted_value.ensures
    (ap listed c.in_ok-push.ensures.items ∙ map-append value c.loop-phrase.found.items (c.in_ok-wanted_value.field-0 ∷ []))

pub returns : goal.returns
returns g c =
    let known = (within (g.G.GlobalScope.scope c.args.scope.now.global.now) (map input c.args.scope.now.inputs.items)).known in
    turn_last known c.args.phrases.now c.loop-phrase.phrase-index (listed c.loop-phrase.found.items) c.loop-phrase.invariant (omega arith)
