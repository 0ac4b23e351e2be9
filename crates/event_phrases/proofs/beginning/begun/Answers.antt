use Rattle.std.proofs.Common.{map, subst, sym, ap, ◌∙◌, arith}
use Rattle.std.specs.Option.{option_map}
use Rattle.std.proofs.lemmas.List.{length-map}
use Rattle.std.proofs.lemmas.Result.{err_from_is_err_and}
use Rattle.syntax.specs.View.{shape, shapes}
use Rattle.values.specs.Tables.{behind, input, table}
use Rattle.values.specs.View.{Fails}
use Rattle.event_phrases.specs.Events.{field_values}
use Rattle.event_phrases.specs.Forms.{field_of}
use Rattle.event_phrases.specs.Uses.{values_behind}
use Rattle.event_phrases.specs.View.{listed}
use Rattle.event_phrases.proofs.Beginnings.{begun, begun_with, begun_fails, too_many}
use Rattle.event_phrases.proofs.Scopes.{from_none}
use Rattle.syntax.proofs.Failing.{fails_none}
use Rattle.event_phrases.proofs.beginning.begun.Goals as goal

pub returns-then-fields-sets : goal.returns-then-fields-sets
returns-then-fields-sets g c =
    let known = behind (table c.args.known.now) (map input c.args.inputs.now) in
    let sets = map (λ v. listed v.items) c.args.sets.now in
    let a = length-map (shapes c.args.fields.now) field_of in
    let d = length-map c.args.fields.now shape in
    let b = length-map c.args.sets.now (λ v. listed v.items) in
    fails_none c.fault.result (option_map (begun_with c.args.channel.now) (field_values known (map field_of (shapes c.args.fields.now)) sets))
    (ap (option_map (begun_with c.args.channel.now)) (too_many known (map field_of (shapes c.args.fields.now)) sets (omega (arith, a, b, d))))

pub returns-in_err-more_values : goal.returns-in_err-more_values
returns-in_err-more_values g c =
    let known = behind (table c.args.known.now) (map input c.args.inputs.now) in
    let o = field_values known (map field_of (shapes c.args.fields.now)) (map (λ v. listed v.items) c.args.sets.now) in
    let k = c.in_err-more_values.field-0.0 in
    let p = err_from_is_err_and c.from_residual.result c.from_residual.ensures.1 in
    rw (p.1, p.2) (begun_fails k c.args.channel.now o (subst (λ o. Fails k o) (ap (λ vs. values_behind (listed vs) o) c.new-values.ensures.items ∙ from_none o) c.in_err-more_values.ensures))

pub returns : goal.returns
returns g c =
    let known = behind (table c.args.known.now) (map input c.args.inputs.now) in
    let o = field_values known (map field_of (shapes c.args.fields.now)) (map (λ v. listed v.items) c.args.sets.now) in
    let vs = listed c.more_values.new.values.items in
    ap (option_map (begun_with c.args.channel.now)) (sym (ap (λ vs. values_behind (listed vs) o) c.new-values.ensures.items ∙ from_none o) ∙ c.in_ok-more_values.ensures)
    ∙ ap (λ n. begun n vs) (sym c.in_ok-from_slice.ensures.items)
