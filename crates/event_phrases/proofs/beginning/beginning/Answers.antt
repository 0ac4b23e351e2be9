use Rattle.std.proofs.Common.{map, subst, sym, ap, ap₂, ◌∙◌}
use Rattle.std.specs.Option.{option_map}
use Rattle.syntax.specs.View.{shape, shapes}
use Rattle.values.specs.Tables.{behind, input}
use Rattle.values.specs.View.{Gives}
use Rattle.event_phrases.specs.Events.{beginning, field_values}
use Rattle.event_phrases.specs.Forms.{event_of, field_of}
use Rattle.event_phrases.specs.Scopes.{within}
use Rattle.event_phrases.specs.View.{beginning as beginning_of, listed}
use Rattle.event_phrases.proofs.Beginnings.{begins_not, begin_none, begin_made, begun_with}
use Rattle.syntax.proofs.Failing.{fails_none}
use Rattle.event_phrases.proofs.beginning.beginning.Goals as goal

pub returns-in-None : goal.returns-in-None
returns-in-None g c =
    let s = g.G.GlobalScope.scope c.args.scope.now.global.now in
    let known = (within s (map input c.args.scope.now.inputs.items)).known in
    fails_none c.fault.result (beginning s.channels known (event_of (shape c.args.tree.now))) (begins_not s.channels known (event_of (shape c.args.tree.now)) c.in-None.ensures)

pub returns-in-None-fields : goal.returns-in-None-fields
returns-in-None-fields g c =
    let s = g.G.GlobalScope.scope c.args.scope.now.global.now in
    let known = (within s (map input c.args.scope.now.inputs.items)).known in
    fails_none c.fault-in-None-fields.result (beginning s.channels known (event_of (shape c.args.tree.now))) (begin_none s.channels known (event_of (shape c.args.tree.now)) c.in-Some.channel.now (map field_of (shapes c.in-Some.fields.now)) c.in-Some.ensures c.in-None-fields.ensures)

pub returns-in-Some-fields : goal.returns-in-Some-fields
returns-in-Some-fields g c =
    let s = g.G.GlobalScope.scope c.args.scope.now.global.now in
    let known = (within s (map input c.args.scope.now.inputs.items)).known in
    let e = ap₂ (λ k is. behind k (map input is)) c.known-known.ensures c.deref.ensures.value in
    let sets = map (λ v. listed v.items) c.in-Some-fields.sets.now in
    subst (λ o. Gives (λ r. beginning_of r) c.begun.result o)
    (ap (λ k. option_map (begun_with c.in-Some.channel.now) (field_values k (map field_of (shapes c.in-Some.fields.now)) sets)) e
    ∙ sym (begin_made s.channels known (event_of (shape c.args.tree.now)) c.in-Some.channel.now (map field_of (shapes c.in-Some.fields.now)) c.in-Some.ensures sets c.in-Some-fields.ensures)) c.begun.ensures
