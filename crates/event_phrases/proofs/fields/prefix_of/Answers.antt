use Rattle.std.proofs.Common.{map, sym, ap, ap₂, arith, ◌∙◌}
use Rattle.std.proofs.lemmas.List.{length-map}
use Rattle.std.proofs.lemmas.Result.{err_from_is_err_and}
use Rattle.syntax.specs.View.{shape, shapes}
use Rattle.values.specs.Tables.{behind, input}
use Rattle.event_phrases.specs.Forms.{event_of, field_of}
use Rattle.event_phrases.specs.Leading.{leading}
use Rattle.event_phrases.specs.Prefixes.{prefix_parts}
use Rattle.event_phrases.specs.Scopes.{within}
use Rattle.event_phrases.specs.View.{listed}
use Rattle.event_phrases.proofs.PrefixParts.{no_event, no_channel, other_count, field_fails, parts_found}
use Rattle.event_phrases.proofs.FieldSteps.{some_values}
use Rattle.event_phrases.proofs.Options.{some_is}
use Rattle.syntax.proofs.Failing.{fails_none}
use Rattle.event_phrases.proofs.fields.prefix_of.Goals as goal

pub returns-in-None-clause-parts : goal.returns-in-None-clause-parts
returns-in-None-clause-parts g c =
    let s = within (g.G.GlobalScope.scope c.args.scope.now.global.now) (map input c.args.scope.now.inputs.items) in
    fails_none c.fault.result (prefix_parts s (event_of (shape c.args.event.now))) (no_event s (event_of (shape c.args.event.now)) c.in-None.ensures)

pub returns-in-None-fields-clause-parts : goal.returns-in-None-fields-clause-parts
returns-in-None-fields-clause-parts g c =
    let s = within (g.G.GlobalScope.scope c.args.scope.now.global.now) (map input c.args.scope.now.inputs.items) in
    fails_none c.no_channel.result (prefix_parts s (event_of (shape c.args.event.now))) (no_channel s (event_of (shape c.args.event.now)) c.in-Some.channel.now (map field_of (shapes c.in-Some.fields.now)) c.in-Some.ensures c.in-None-fields.ensures)

pub returns-then-fields-sets-clause-parts : goal.returns-then-fields-sets-clause-parts
returns-then-fields-sets-clause-parts g c =
    let s = within (g.G.GlobalScope.scope c.args.scope.now.global.now) (map input c.args.scope.now.inputs.items) in
    fails_none c.fault-then-fields-sets.result (prefix_parts s (event_of (shape c.args.event.now))) (other_count s (event_of (shape c.args.event.now)) c.in-Some.channel.now (map field_of (shapes c.in-Some.fields.now)) c.in-Some.ensures (map (λ v. listed v.items) c.in-Some-fields.sets.now) c.in-Some-fields.ensures (λ e. c.if-fields-sets.true (omega (arith, e, length-map c.in-Some.fields.now (shape {A = g.row.A.Denot}), length-map (shapes c.in-Some.fields.now) field_of, length-map c.in-Some-fields.sets.now (λ v. listed v.items)))))

pub returns-in_err-at_no_fault-in-Some-fields-clause-parts : goal.returns-in_err-at_no_fault-in-Some-fields-clause-parts
returns-in_err-at_no_fault-in-Some-fields-clause-parts g c =
    let s = within (g.G.GlobalScope.scope c.args.scope.now.global.now) (map input c.args.scope.now.inputs.items) in
    let p = err_from_is_err_and c.from_residual.result c.from_residual.ensures.1 in
    rw (p.1, p.2) (field_fails s (event_of (shape c.args.event.now)) c.in-Some.channel.now (map field_of (shapes c.in-Some.fields.now)) c.in-Some.ensures (map (λ v. listed v.items) c.in-Some-fields.sets.now) c.in-Some-fields.ensures (length-map (shapes c.in-Some.fields.now) field_of ∙ length-map c.in-Some.fields.now shape ∙ c.if-fields-sets.false ∙ sym (length-map c.in-Some-fields.sets.now (λ v. listed v.items))) c.in_err-at_no_fault-in-Some-fields.field-0.0 c.in_err-at_no_fault-in-Some-fields.ensures)

pub returns-in_ok-leading-in-Some-fields-clause-parts : goal.returns-in_ok-leading-in-Some-fields-clause-parts
returns-in_ok-leading-in-Some-fields-clause-parts g c =
    let s = within (g.G.GlobalScope.scope c.args.scope.now.global.now) (map input c.args.scope.now.inputs.items) in
    parts_found s (event_of (shape c.args.event.now)) c.in-Some.channel.now (map field_of (shapes c.in-Some.fields.now)) c.in-Some.ensures (map (λ v. listed v.items) c.in-Some-fields.sets.now) c.in-Some-fields.ensures (length-map (shapes c.in-Some.fields.now) field_of ∙ length-map c.in-Some.fields.now shape ∙ c.if-fields-sets.false ∙ sym (length-map c.in-Some-fields.sets.now (λ v. listed v.items))) c.in_ok-at_no_fault-in-Some-fields.ensures

pub returns-in_ok-leading-in-Some-fields-clause-leading : goal.returns-in_ok-leading-in-Some-fields-clause-leading
returns-in_ok-leading-in-Some-fields-clause-leading g c =
    let e = ap₂ (λ k is. behind k (map input is)) c.known.ensures c.deref.ensures.value in
    sym (some_is (ap (λ k. some_values (leading k (map field_of (shapes c.in-Some.fields.now)) (map (λ v. listed v.items) c.in-Some-fields.sets.now))) (sym e) ∙ c.in_ok-leading-in-Some-fields.ensures))
