use Rattle.std.proofs.Common.{map}
use Rattle.std.proofs.lemmas.Result.{err_from_is_err_and}
use Rattle.syntax.specs.View.{shape}
use Rattle.values.specs.Tables.{input}
use Rattle.event_phrases.specs.Scopes.{events_by, within}
use Rattle.event_phrases.proofs.TwoSets.{first_of_two, second_of_two, both_of_two}
use Rattle.event_phrases.proofs.sets.two_sets.Goals as goal

pub returns-in_err-first : goal.returns-in_err-first
returns-in_err-first g c =
    let s = within (g.G.GlobalScope.scope c.args.scope.now.global.now) (map input c.args.scope.now.inputs.items) in
    let p = err_from_is_err_and c.from_residual.result c.from_residual.ensures.1 in
    rw (p.1, p.2) (first_of_two s.channels (events_by s (shape c.args.first.now)) (events_by s (shape c.args.second.now)) c.in_err-first.field-0.0 c.in_err-first.ensures)

pub returns-in_err-second : goal.returns-in_err-second
returns-in_err-second g c =
    let s = within (g.G.GlobalScope.scope c.args.scope.now.global.now) (map input c.args.scope.now.inputs.items) in
    let p = err_from_is_err_and c.from_residual-in_err-second.result c.from_residual-in_err-second.ensures.1 in
    rw (p.1, p.2) (second_of_two s.channels (events_by s (shape c.args.first.now)) (events_by s (shape c.args.second.now)) c.in_ok-first.first c.in_ok-first.ensures c.in_err-second.field-0.0 c.in_err-second.ensures)

pub returns : goal.returns
returns g c =
    let s = within (g.G.GlobalScope.scope c.args.scope.now.global.now) (map input c.args.scope.now.inputs.items) in
    both_of_two s.channels (events_by s (shape c.args.first.now)) (events_by s (shape c.args.second.now)) c.in_ok-first.first c.in_ok-first.ensures c.in_ok-second.second c.in_ok-second.ensures
