use Rattle.std.proofs.Common.{◌≡◌, List, ℕ, length, map, sym, subst, ap, ◌∙◌}
use Rattle.std.proofs.lemmas.List.{length-map}
use Rattle.std.proofs.lemmas.Result.{err_from_is_err_and}
use Rattle.syntax.specs.View.{shape, shapes}
use Rattle.values.specs.Tables.{input}
use Rattle.values.specs.View.{Gives}
use Rattle.event_phrases.specs.Scopes.{within}
use Rattle.event_phrases.specs.View.{listed}
use Rattle.denotation.specs.Bodies.{name}
use Rattle.denotation.specs.Phrases.{called_with as call}
use Rattle.denotation.specs.Rooms.{spare, fits}
use Rattle.denotation.specs.View.{body}
use Rattle.denotation.proofs.Arguments.{bytes, none_fits, call_hidden, call_of_none, call_of_others, call_fails, call_so}
use Rattle.syntax.proofs.Failing.{fails_none}
use Rattle.denotation.proofs.calls.called_with.Goals as goal

pub returns-then-is_value : goal.returns-then-is_value
returns-then-is_value g c =
    let s = within (g.G.GlobalScope.scope c.args.scope.now.global.now) (map input c.args.scope.now.inputs.items) in
    let ts = shapes c.args.arguments.now in
    fails_none c.fault.result (fits c.args.room.now (call c.args.name.now ts s)) (none_fits c.args.room.now (call c.args.name.now ts s) (call_hidden s c.args.name.now ts (sym c.is_value.ensures ∙ c.if-is_value.true)))

pub returns-in-None : goal.returns-in-None
returns-in-None g c =
    let s = within (g.G.GlobalScope.scope c.args.scope.now.global.now) (map input c.args.scope.now.inputs.items) in
    let ts = shapes c.args.arguments.now in
    fails_none c.call_fault.result (fits c.args.room.now (call c.args.name.now ts s)) (none_fits c.args.room.now (call c.args.name.now ts s) (call_of_none s c.args.name.now ts (sym c.is_value.ensures ∙ c.if-is_value.false) c.in-None.ensures))

pub returns-then-parameters-arguments : goal.returns-then-parameters-arguments
returns-then-parameters-arguments g c =
    let s = within (g.G.GlobalScope.scope c.args.scope.now.global.now) (map input c.args.scope.now.inputs.items) in
    let ts = shapes c.args.arguments.now in
    let xs = c.in-Some.parameters.now in
    fails_none c.call_fault-then-parameters-arguments.result (fits c.args.room.now (call c.args.name.now ts s))
    (none_fits c.args.room.now (call c.args.name.now ts s) (call_of_others s c.args.name.now ts (sym c.is_value.ensures ∙ c.if-is_value.false) (bytes xs) _ c.in-Some.ensures
    (λ e. c.if-parameters-arguments.true (sym (length-map xs (λ x. x.items)) ∙ e ∙ length-map c.args.arguments.now shape))))

pub returns-in_err-argument_values-in-Some : goal.returns-in_err-argument_values-in-Some
returns-in_err-argument_values-in-Some g c =
    let s = within (g.G.GlobalScope.scope c.args.scope.now.global.now) (map input c.args.scope.now.inputs.items) in
    let ts = shapes c.args.arguments.now in
    let xs = c.in-Some.parameters.now in
    let same : length (bytes xs) ≡ length ts = length-map xs (λ x. x.items) ∙ c.if-parameters-arguments.false ∙ sym (length-map c.args.arguments.now shape) in
    let p = err_from_is_err_and c.from_residual.result c.from_residual.ensures.1 in
    rw (p.1, p.2) (call_fails s c.args.name.now ts (sym c.is_value.ensures ∙ c.if-is_value.false) (bytes xs) _ c.in-Some.ensures same c.in_err-argument_values-in-Some.field-0.0 c.args.room.now c.in_err-argument_values-in-Some.ensures)

pub returns-in_ok-from_slice-in-Some : goal.returns-in_ok-from_slice-in-Some
returns-in_ok-from_slice-in-Some g c =
    let s = within (g.G.GlobalScope.scope c.args.scope.now.global.now) (map input c.args.scope.now.inputs.items) in
    let ts = shapes c.args.arguments.now in
    let xs = c.in-Some.parameters.now in
    let vs = listed c.in_ok-argument_values-in-Some.field-0.items in
    let same : length (bytes xs) ≡ length ts = length-map xs (λ x. x.items) ∙ c.if-parameters-arguments.false ∙ sym (length-map c.args.arguments.now shape) in
    subst (λ o. Gives (λ b. (body b, c.refer.new.room)) c.refer.result o)
    (sym (call_so s c.args.name.now ts (sym c.is_value.ensures ∙ c.if-is_value.false) (bytes xs) _ c.in-Some.ensures same vs c.in_ok-argument_values-in-Some.ensures c.args.room.now
    ∙ ap (λ (n : List ℕ). spare 1 (name (n, vs)) c.args.room.now) (sym c.in_ok-from_slice-in-Some.ensures.items))) c.refer.ensures
