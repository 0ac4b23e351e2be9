use Rattle.std.proofs.Common.{◌≡◌, ◌++◌, ◌∷◌, [], map, drop, subst, sym, ap, ap₂, ◌∙◌}
use Rattle.std.proofs.lemmas.List.{map-append}
use Rattle.std.proofs.lemmas.Result.{err_from_is_err_and}
use Rattle.syntax.specs.View.{shape, shapes}
use Rattle.values.specs.Tables.{behind, input, table}
use Rattle.values.specs.View.{Gives, Fails, value}
use Rattle.event_phrases.specs.Events.{field_values}
use Rattle.event_phrases.specs.Forms.{field_of}
use Rattle.event_phrases.specs.Uses.{values_behind}
use Rattle.event_phrases.specs.View.{listed}
use Rattle.event_phrases.proofs.Scopes.{no_fields, no_sets, one_value, value_fails, no_items, first_item, rest_is}
use Rattle.syntax.proofs.Failing.{fails_none}
use Rattle.event_phrases.proofs.beginning.+more_values.Goals as goal

pub returns-in-empty : goal.returns-in-empty
returns-in-empty g t c =
    let known = behind (table c.args.known.now) (map input c.args.inputs.now) in
    let sets = map (λ v. listed v.items) c.args.sets.now in
    ap (λ ts. values_behind (listed c.args.values.now.items) (field_values known (map field_of (shapes ts)) sets)) (no_items c.args.fields.now c.in-empty.len_below) ∙ no_fields known sets (listed c.args.values.now.items)

pub returns-in-empty-sets : goal.returns-in-empty-sets
returns-in-empty-sets g t c =
    let known = behind (table c.args.known.now) (map input c.args.inputs.now) in
    let front = listed c.args.values.now.items in
    let ef = first_item c.args.fields.now c.field-item.result c.in-len1-up.len_at_least c.field-item.is in
    let es = no_items c.args.sets.now c.in-empty-sets.len_below in
    fails_none c.fault.result (values_behind front (field_values known (map field_of (shapes c.args.fields.now)) (map (λ v. listed v.items) c.args.sets.now)))
    (ap₂ (λ ts vs. values_behind front (field_values known (map field_of (shapes ts)) (map (λ v. listed v.items) vs))) ef es ∙ no_sets known (field_of (shape c.field-item.result)) (map field_of (shapes (drop 1 c.args.fields.now))) front)

pub returns-in_err-given_within-in-len1-up-sets : goal.returns-in_err-given_within-in-len1-up-sets
returns-in_err-given_within-in-len1-up-sets g t c =
    let known = behind (table c.args.known.now) (map input c.args.inputs.now) in
    let front = listed c.args.values.now.items in
    let ef = first_item c.args.fields.now c.field-item.result c.in-len1-up.len_at_least c.field-item.is in
    let es = first_item c.args.sets.now c.set-item.result c.in-len1-up-sets.len_at_least c.set-item.is in
    let whole = ap₂ (λ ts vs. values_behind front (field_values known (map field_of (shapes ts)) (map (λ v. listed v.items) vs))) ef es in
    let k = c.in_err-given_within-in-len1-up-sets.field-0.0 in
    let p = err_from_is_err_and c.from_residual.result c.from_residual.ensures.1 in
    rw (p.1, p.2) (subst (λ o. Fails k o) (sym whole) (value_fails known (field_of (shape c.field-item.result)) (map field_of (shapes (drop 1 c.args.fields.now))) (listed c.set-item.result.items) (map (λ v. listed v.items) (drop 1 c.args.sets.now)) front k c.in_err-given_within-in-len1-up-sets.ensures))

pub returns-in_ok-push-in-len1-up-sets : goal.returns-in_ok-push-in-len1-up-sets
returns-in_ok-push-in-len1-up-sets g t c =
    let known = behind (table c.args.known.now) (map input c.args.inputs.now) in
    let front = listed c.args.values.now.items in
    let v = value c.in_ok-given_within-in-len1-up-sets.field-0 in
    let others = field_values known (map field_of (shapes (drop 1 c.args.fields.now))) (map (λ v. listed v.items) (drop 1 c.args.sets.now)) in
    let ef = first_item c.args.fields.now c.field-item.result c.in-len1-up.len_at_least c.field-item.is in
    let es = first_item c.args.sets.now c.set-item.result c.in-len1-up-sets.len_at_least c.set-item.is in
    let whole = ap₂ (λ ts vs. values_behind front (field_values known (map field_of (shapes ts)) (map (λ v. listed v.items) vs))) ef es in
    let new : listed c.push.new.self.items ≡ front ++ v ∷ [] = ap (λ xs. listed xs) c.in_ok-push-in-len1-up-sets.ensures.items ∙ map-append value c.args.values.now.items (c.in_ok-given_within-in-len1-up-sets.field-0 ∷ []) in
    let same = whole ∙ one_value known (field_of (shape c.field-item.result)) (map field_of (shapes (drop 1 c.args.fields.now))) (listed c.set-item.result.items) (map (λ v. listed v.items) (drop 1 c.args.sets.now)) front v c.in_ok-given_within-in-len1-up-sets.ensures ∙ ap (λ front. values_behind front others) (sym new)
    ∙ ap₂ (λ ts vs. values_behind (listed c.push.new.self.items) (field_values known (map field_of (shapes ts)) (map (λ v. listed v.items) vs))) (sym (rest_is c.args.fields.now)) (sym (rest_is c.args.sets.now)) in
    subst (λ o. Gives (λ u. listed c.more_values.new.values.items) c.more_values.result o) (sym same) c.more_values.ensures
