use Rattle.std.proofs.Common.{◌≡◌, map, subst, sym, length, ap, ap₂, ◌∙◌}
use Rattle.std.proofs.lemmas.List.{length-map}
use Rattle.std.specs.Option.{option_map}
use Rattle.syntax.specs.View.{shape, shapes}
use Rattle.values.specs.Tables.{behind, input}
use Rattle.values.specs.View.{Gives}
use Rattle.event_phrases.specs.Events.{field_values, whole_event}
use Rattle.event_phrases.specs.Forms.{event, field_of}
use Rattle.event_phrases.specs.Scopes.{within}
use Rattle.event_phrases.specs.View.{beginning as beginning_of, listed}
use Rattle.event_phrases.proofs.Beginnings.{whole_none, whole_lacks, whole_made, begun_with}
use Rattle.syntax.proofs.Failing.{fails_none}
use Rattle.event_phrases.proofs.beginning.event.Goals as goal

pub returns-in-None : goal.returns-in-None
returns-in-None g c =
    let s = g.G.GlobalScope.scope c.args.scope.now.global.now in
    let known = (within s (map input c.args.scope.now.inputs.items)).known in
    let fs = map field_of (shapes c.args.fields.now) in
    fails_none c.fault.result (whole_event s.channels known (event c.args.channel.now fs)) (whole_none s.channels known c.args.channel.now fs c.in-None.ensures)

pub returns-then-fields-sets : goal.returns-then-fields-sets
returns-then-fields-sets g c =
    let s = g.G.GlobalScope.scope c.args.scope.now.global.now in
    let known = (within s (map input c.args.scope.now.inputs.items)).known in
    let fs = map field_of (shapes c.args.fields.now) in
    let sets = map (λ v. listed v.items) c.in-Some.sets.now in
    let a : length fs ≡ length c.args.fields.now = length-map (shapes c.args.fields.now) field_of ∙ length-map c.args.fields.now shape in
    let b : length sets ≡ length c.in-Some.sets.now = length-map c.in-Some.sets.now (λ v. listed v.items) in
    fails_none c.fault-then-fields-sets.result (whole_event s.channels known (event c.args.channel.now fs)) (whole_lacks s.channels known c.args.channel.now fs sets c.in-Some.ensures (λ e. c.if-fields-sets.true (sym a ∙ e ∙ b)))

pub returns-else-fields-sets : goal.returns-else-fields-sets
returns-else-fields-sets g c =
    let s = g.G.GlobalScope.scope c.args.scope.now.global.now in
    let known = (within s (map input c.args.scope.now.inputs.items)).known in
    let e = ap₂ (λ k is. behind k (map input is)) c.known.ensures c.deref.ensures.value in
    let fs = map field_of (shapes c.args.fields.now) in
    let sets = map (λ v. listed v.items) c.in-Some.sets.now in
    let a : length fs ≡ length c.args.fields.now = length-map (shapes c.args.fields.now) field_of ∙ length-map c.args.fields.now shape in
    let b : length sets ≡ length c.in-Some.sets.now = length-map c.in-Some.sets.now (λ v. listed v.items) in
    subst (λ o. Gives (λ r. beginning_of r) c.begun.result o)
    (ap (λ k. option_map (begun_with c.args.channel.now) (field_values k fs sets)) e
    ∙ sym (whole_made s.channels known c.args.channel.now fs sets c.in-Some.ensures (a ∙ c.if-fields-sets.false ∙ sym b))) c.begun.ensures
