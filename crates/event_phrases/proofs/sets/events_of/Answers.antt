use Rattle.std.proofs.Common.{map, sym, ap, ◌∙◌}
use Rattle.std.proofs.lemmas.Result.{err_from_is_err_and}
use Rattle.syntax.specs.View.{shape}
use Rattle.values.specs.Tables.{input}
use Rattle.event_phrases.specs.Forms.{event_of}
use Rattle.event_phrases.specs.Scopes.{within}
use Rattle.event_phrases.specs.View.{beginning as beginning_of}
use Rattle.event_phrases.proofs.EventSetLaws.{begun_events, begun_fails, member_events, member_fails, some_beginning}
use Rattle.event_phrases.proofs.sets.events_of.Goals as goal
use Rattle.event_phrases.proofs.sets.events_of.Goals.{in-Beginnings+in_ok-event-in-Beginnings, in-Events+in_ok-event-in-Events}

pub returns-in_err-event-in-Beginnings : goal.returns-in_err-event-in-Beginnings
returns-in_err-event-in-Beginnings g c =
    let s = g.G.GlobalScope.scope c.args.scope.now.global.now in
    let p = err_from_is_err_and c.from_residual.result c.from_residual.ensures.1 in
    rw (p.1, p.2) (begun_fails c.in_err-event-in-Beginnings.field-0.0 s.channels (within s (map input c.args.scope.now.inputs.items)).known c.args.extent (event_of (shape c.args.tree.now)) c.in-Beginnings.is c.in_err-event-in-Beginnings.ensures)

pub returns-in_err-event-in-Events : goal.returns-in_err-event-in-Events
returns-in_err-event-in-Events g c =
    let s = g.G.GlobalScope.scope c.args.scope.now.global.now in
    let p = err_from_is_err_and c.from_residual-in_err-event-in-Events.result c.from_residual-in_err-event-in-Events.ensures.1 in
    rw (p.1, p.2) (member_fails c.in_err-event-in-Events.field-0.0 s.channels (within s (map input c.args.scope.now.inputs.items)).known c.args.extent (event_of (shape c.args.tree.now)) c.in-Events.is c.in_err-event-in-Events.ensures)

pub returns : goal.returns
returns g c =
    let s = g.G.GlobalScope.scope c.args.scope.now.global.now in
    let known = (within s (map input c.args.scope.now.inputs.items)).known in
    let t = event_of (shape c.args.tree.now) in
    let b = beginning_of c.match-extent.event in
    elim c.match-extent.branch [
      | in-Beginnings+in_ok-event-in-Beginnings w ↦ begun_events s.channels known c.args.extent t c.events.result.now c.events.ensures.rows b c.beginning_so.result c.beginning_so.ensures w.in-Beginnings.is (w.in_ok-event-in-Beginnings.ensures ∙ ap (λ r. some_beginning (beginning_of r)) (sym w.event-is))
      | in-Events+in_ok-event-in-Events w ↦ member_events s.channels known c.args.extent t c.events.result.now c.events.ensures.rows b c.beginning_so.result c.beginning_so.ensures w.in-Events.is (w.in_ok-event-in-Events.ensures ∙ ap (λ r. some_beginning (beginning_of r)) (sym w.event-is))
    ]
