use Rattle.std.proofs.Common.{List, map, subst, sym, ap, ◌∙◌}
use Rattle.std.specs.Option.{option_map}
use Rattle.std.proofs.lemmas.Result.{err_from_is_err_and}
use Rattle.alphabet.specs.Channels.{FieldValue}
use Rattle.syntax.specs.View.{shape, shapes}
use Rattle.values.specs.Tables.{input}
use Rattle.values.specs.Values.{Name}
use Rattle.values.specs.View.{Fails, Gives, value}
use Rattle.event_phrases.specs.Fitting.{fitting}
use Rattle.event_phrases.specs.Forms.{field_of}
use Rattle.event_phrases.specs.Scopes.{within}
use Rattle.event_phrases.specs.View.{listed}
use Rattle.event_phrases.proofs.FieldSteps.{fit_if, led_by_none, led_no_fields, led_no_sets, led_no_values, led_other, led_same}
use Rattle.syntax.proofs.Failing.{fails_none}
use Rattle.event_phrases.proofs.leading.+led_fitting.Goals as goal

pub returns-in-empty-fields : goal.returns-in-empty-fields
returns-in-empty-fields g t c =
    let s = within (g.G.GlobalScope.scope c.args.scope.now.global.now) (map input c.args.scope.now.inputs.items) in
    fails_none c.fault.result _ (led_no_fields value shape (λ v. listed v.items) value s c.args.leading.now c.args.fields.now c.args.sets.now c.args.values.now c.in-len1-up.len_at_least c.in-empty-fields.len_below)

pub returns-in-empty-sets : goal.returns-in-empty-sets
returns-in-empty-sets g t c =
    let s = within (g.G.GlobalScope.scope c.args.scope.now.global.now) (map input c.args.scope.now.inputs.items) in
    fails_none c.fault-in-empty-sets.result _ (led_no_sets value shape (λ v. listed v.items) value s c.args.leading.now c.args.fields.now c.args.sets.now c.args.values.now c.in-len1-up.len_at_least c.in-len1-up-fields.len_at_least c.in-empty-sets.len_below)

pub returns-in-empty-values : goal.returns-in-empty-values
returns-in-empty-values g t c =
    let s = within (g.G.GlobalScope.scope c.args.scope.now.global.now) (map input c.args.scope.now.inputs.items) in
    fails_none c.fault-in-empty-values.result _ (led_no_values value shape (λ v. listed v.items) value s c.args.leading.now c.args.fields.now c.args.sets.now c.args.values.now c.in-len1-up.len_at_least c.in-len1-up-fields.len_at_least c.in-len1-up-sets.len_at_least c.in-empty-values.len_below)

pub returns-then-is_equal : goal.returns-then-is_equal
returns-then-is_equal g t c =
    let global = g.G.GlobalScope.scope c.args.scope.now.global.now in
    let same = led_same value shape (λ v. listed v.items) value (within global (map input c.args.scope.now.inputs.items)) c.args.leading.now c.args.fields.now c.args.sets.now c.args.values.now c.first-item.result c.value-item.result c.in-len1-up.len_at_least c.in-len1-up-fields.len_at_least c.in-len1-up-sets.len_at_least c.in-len1-up-values.len_at_least c.first-item.is c.value-item.is (sym c.is_equal.ensures ∙ c.if-is_equal.true) in
    subst (λ o. Gives (option_map (λ v. within global (map input v.items))) c.led_fitting.result o) (sym same) c.led_fitting.ensures

pub returns-else-is_equal : goal.returns-else-is_equal
returns-else-is_equal g t c =
    let s = within (g.G.GlobalScope.scope c.args.scope.now.global.now) (map input c.args.scope.now.inputs.items) in
    led_other value shape (λ v. listed v.items) value s c.args.leading.now c.args.fields.now c.args.sets.now c.args.values.now c.first-item.result c.value-item.result c.in-len1-up.len_at_least c.in-len1-up-fields.len_at_least c.in-len1-up-sets.len_at_least c.in-len1-up-values.len_at_least c.first-item.is c.value-item.is (sym c.is_equal.ensures ∙ c.if-is_equal.false)

pub returns-in_err-fitting-in-empty : goal.returns-in_err-fitting-in-empty
returns-in_err-fitting-in-empty g t c =
    let global = g.G.GlobalScope.scope c.args.scope.now.global.now in
    let fit = λ (is : List (Name × FieldValue)). fitting (map field_of (shapes c.args.fields.now)) (map (λ v. listed v.items) c.args.sets.now) (listed c.args.values.now) (within global is) in
    let start = led_by_none value shape (λ v. listed v.items) value (within global (map input c.args.scope.now.inputs.items)) c.args.leading.now c.args.fields.now c.args.sets.now c.args.values.now c.in-empty.len_below
    ∙ ap fit (sym (c.in_ok-inputs-in-empty.ensures ∙ ap (map input) c.deref.ensures.value)) in
    let k = c.in_err-fitting-in-empty.field-0.0 in
    let p = err_from_is_err_and c.from_residual-in_err-fitting-in-empty.result c.from_residual-in_err-fitting-in-empty.ensures.1 in
    rw (p.1, p.2) (subst (λ o. Fails k o) (sym start) c.in_err-fitting-in-empty.ensures)

pub returns-then-branch : goal.returns-then-branch
returns-then-branch g t c =
    let global = g.G.GlobalScope.scope c.args.scope.now.global.now in
    let fit = λ (is : List (Name × FieldValue)). fitting (map field_of (shapes c.args.fields.now)) (map (λ v. listed v.items) c.args.sets.now) (listed c.args.values.now) (within global is) in
    led_by_none value shape (λ v. listed v.items) value (within global (map input c.args.scope.now.inputs.items)) c.args.leading.now c.args.fields.now c.args.sets.now c.args.values.now c.in-empty.len_below
    ∙ ap fit (sym (c.in_ok-inputs-in-empty.ensures ∙ ap (map input) c.deref.ensures.value))
    ∙ c.in_ok-fitting-in-empty.ensures
    ∙ ap (fit_if (within global (map input c.fitting.new.inputs.items))) c.if-branch.true

pub returns-else-branch : goal.returns-else-branch
returns-else-branch g t c =
    let global = g.G.GlobalScope.scope c.args.scope.now.global.now in
    let fit = λ (is : List (Name × FieldValue)). fitting (map field_of (shapes c.args.fields.now)) (map (λ v. listed v.items) c.args.sets.now) (listed c.args.values.now) (within global is) in
    led_by_none value shape (λ v. listed v.items) value (within global (map input c.args.scope.now.inputs.items)) c.args.leading.now c.args.fields.now c.args.sets.now c.args.values.now c.in-empty.len_below
    ∙ ap fit (sym (c.in_ok-inputs-in-empty.ensures ∙ ap (map input) c.deref.ensures.value))
    ∙ c.in_ok-fitting-in-empty.ensures
    ∙ ap (fit_if (within global (map input c.fitting.new.inputs.items))) c.if-branch.false
