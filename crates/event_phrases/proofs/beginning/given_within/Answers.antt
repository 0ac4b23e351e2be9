use Rattle.std.proofs.Common.{map, sym, ap, ◌∙◌}
use Rattle.std.proofs.lemmas.Result.{err_from_is_err_and}
use Rattle.syntax.specs.View.{shape}
use Rattle.values.specs.Tables.{behind, input, table}
use Rattle.values.specs.Values.{is_among}
use Rattle.values.specs.View.{value}
use Rattle.event_phrases.specs.Events.{field_value, value_within}
use Rattle.event_phrases.specs.Forms.{field_of}
use Rattle.event_phrases.specs.View.{listed}
use Rattle.event_phrases.proofs.Scopes.{kept_within, left_out, no_value_within}
use Rattle.syntax.proofs.Failing.{fails_none}
use Rattle.event_phrases.proofs.beginning.given_within.Goals as goal

pub returns-in_err-value : goal.returns-in_err-value
returns-in_err-value g c =
    let known = behind (table c.args.known.now) (map input c.args.inputs.now) in
    let p = err_from_is_err_and c.from_residual.result c.from_residual.ensures.1 in
    rw (p.1, p.2) (no_value_within c.in_err-value.field-0.0 (field_value known (field_of (shape c.args.field.now))) (listed c.args.set.now.items) c.in_err-value.ensures)

pub returns-then-is_one_of : goal.returns-then-is_one_of
returns-then-is_one_of g c =
    let known = behind (table c.args.known.now) (map input c.args.inputs.now) in
    let v = value c.in_ok-value.value in
    kept_within (field_value known (field_of (shape c.args.field.now))) (listed c.args.set.now.items) v c.in_ok-value.ensures (ap (λ xs. is_among v (listed xs)) (sym c.deref.ensures.value) ∙ sym c.is_one_of.ensures ∙ c.if-is_one_of.true)

pub returns-else-is_one_of : goal.returns-else-is_one_of
returns-else-is_one_of g c =
    let known = behind (table c.args.known.now) (map input c.args.inputs.now) in
    let v = value c.in_ok-value.value in
    fails_none c.fault.result (value_within (field_value known (field_of (shape c.args.field.now))) (listed c.args.set.now.items))
    (left_out (field_value known (field_of (shape c.args.field.now))) (listed c.args.set.now.items) v c.in_ok-value.ensures (ap (λ xs. is_among v (listed xs)) (sym c.deref.ensures.value) ∙ sym c.is_one_of.ensures ∙ c.if-is_one_of.false))
