use Rattle.std.proofs.Common.{◌-◌, Some, None, cond, drop, length, map, subst, sym, take, ap, ◌∙◌}
use Rattle.std.proofs.lemmas.Result.{err_from_is_err_and}
use Rattle.syntax.specs.View.{shape, shapes}
use Rattle.values.specs.Tables.{input}
use Rattle.values.specs.View.{Gives, value}
use Rattle.event_phrases.specs.Fitting.{fits_field, fitting, then_fits}
use Rattle.event_phrases.specs.Forms.{field_of}
use Rattle.event_phrases.specs.Scopes.{Scope, within}
use Rattle.event_phrases.specs.View.{listed}
use Rattle.event_phrases.proofs.FieldSteps.{fit_done, fit_if, fit_next, fit_no_sets, fit_no_values, fit_sets_left, fit_values_left}
use Rattle.syntax.proofs.Failing.{fails_none, fails_on}
use Rattle.event_phrases.proofs.prefix.+fitting.Goals as goal

pub returns-in-empty-values : goal.returns-in-empty-values
returns-in-empty-values g t c =
    let s = within (g.G.GlobalScope.scope c.args.global.now) (map input c.args.inputs.now.items) in
    fit_done shape (λ v. listed v.items) value c.args.fields.now c.args.sets.now c.args.values.now s c.in-empty.len_below c.in-empty-sets.len_below c.in-empty-values.len_below

pub returns-in-len1-up-values : goal.returns-in-len1-up-values
returns-in-len1-up-values g t c =
    let s = within (g.G.GlobalScope.scope c.args.global.now) (map input c.args.inputs.now.items) in
    fails_none c.fault.result _ (fit_values_left shape (λ v. listed v.items) value c.args.fields.now c.args.sets.now c.args.values.now s c.in-empty.len_below c.in-empty-sets.len_below c.in-len1-up-values.len_at_least)

pub returns-in-len1-up-sets : goal.returns-in-len1-up-sets
returns-in-len1-up-sets g t c =
    let s = within (g.G.GlobalScope.scope c.args.global.now) (map input c.args.inputs.now.items) in
    fails_none c.fault-in-len1-up-sets.result _ (fit_sets_left shape (λ v. listed v.items) value c.args.fields.now c.args.sets.now c.args.values.now s c.in-empty.len_below c.in-len1-up-sets.len_at_least)

pub returns-in-empty-sets-2 : goal.returns-in-empty-sets-2
returns-in-empty-sets-2 g t c =
    let s = within (g.G.GlobalScope.scope c.args.global.now) (map input c.args.inputs.now.items) in
    fails_none c.fault-in-empty-sets-2.result _ (fit_no_sets shape (λ v. listed v.items) value c.args.fields.now c.args.sets.now c.args.values.now s c.in-len1-up.len_at_least c.in-empty-sets-2.len_below)

pub returns-in-empty-values-2 : goal.returns-in-empty-values-2
returns-in-empty-values-2 g t c =
    let s = within (g.G.GlobalScope.scope c.args.global.now) (map input c.args.inputs.now.items) in
    fails_none c.fault-in-empty-values-2.result _ (fit_no_values shape (λ v. listed v.items) value c.args.fields.now c.args.sets.now c.args.values.now s c.in-len1-up.len_at_least c.in-len1-up-sets-2.len_at_least c.in-empty-values-2.len_below)

pub returns-in_err-fits-in-len1-up-values-2 : goal.returns-in_err-fits-in-len1-up-values-2
returns-in_err-fits-in-len1-up-values-2 g t c =
    let global = g.G.GlobalScope.scope c.args.global.now in
    let others = λ (s : Scope). fitting (map field_of (shapes (take (length c.args.fields.now - 1) (drop 1 c.args.fields.now)))) (map (λ v. listed v.items) (take (length c.args.sets.now - 1) (drop 1 c.args.sets.now))) (listed (take (length c.args.values.now - 1) (drop 1 c.args.values.now))) s in
    let next = fit_next shape (λ v. listed v.items) value c.args.fields.now c.args.sets.now c.args.values.now (within global (map input c.args.inputs.now.items)) c.field-item.result c.set-item.result c.value-item.result c.in-len1-up.len_at_least c.in-len1-up-sets-2.len_at_least c.in-len1-up-values-2.len_at_least c.field-item.is c.set-item.is c.value-item.is in
    let k = c.in_err-fits-in-len1-up-values-2.field-0.0 in
    let p = err_from_is_err_and c.from_residual.result c.from_residual.ensures.1 in
    rw (p.1, p.2) (fails_on k (fits_field (field_of (shape c.field-item.result)) (listed c.set-item.result.items) (value c.value-item.result) (within global (map input c.args.inputs.now.items)))
    (fitting (map field_of (shapes c.args.fields.now)) (map (λ v. listed v.items) c.args.sets.now) (listed c.args.values.now) (within global (map input c.args.inputs.now.items)))
    (λ e. next ∙ ap (λ o. then_fits o others) e) c.in_err-fits-in-len1-up-values-2.ensures)

pub returns-then-not-branch : goal.returns-then-not-branch
returns-then-not-branch g t c =
    let global = g.G.GlobalScope.scope c.args.global.now in
    let others = λ (s : Scope). fitting (map field_of (shapes (take (length c.args.fields.now - 1) (drop 1 c.args.fields.now)))) (map (λ v. listed v.items) (take (length c.args.sets.now - 1) (drop 1 c.args.sets.now))) (listed (take (length c.args.values.now - 1) (drop 1 c.args.values.now))) s in
    let next = fit_next shape (λ v. listed v.items) value c.args.fields.now c.args.sets.now c.args.values.now (within global (map input c.args.inputs.now.items)) c.field-item.result c.set-item.result c.value-item.result c.in-len1-up.len_at_least c.in-len1-up-sets-2.len_at_least c.in-len1-up-values-2.len_at_least c.field-item.is c.set-item.is c.value-item.is in
    next ∙ ap (λ o. then_fits o others) (c.in_ok-fits-in-len1-up-values-2.ensures ∙ ap (fit_if (within global (map input c.fits.new.inputs.items))) c.if-not-branch.true)

pub returns-else-not-branch : goal.returns-else-not-branch
returns-else-not-branch g t c =
    let global = g.G.GlobalScope.scope c.args.global.now in
    let others = λ (s : Scope). fitting (map field_of (shapes (take (length c.args.fields.now - 1) (drop 1 c.args.fields.now)))) (map (λ v. listed v.items) (take (length c.args.sets.now - 1) (drop 1 c.args.sets.now))) (listed (take (length c.args.values.now - 1) (drop 1 c.args.values.now))) s in
    let next = fit_next shape (λ v. listed v.items) value c.args.fields.now c.args.sets.now c.args.values.now (within global (map input c.args.inputs.now.items)) c.field-item.result c.set-item.result c.value-item.result c.in-len1-up.len_at_least c.in-len1-up-sets-2.len_at_least c.in-len1-up-values-2.len_at_least c.field-item.is c.set-item.is c.value-item.is in
    let same = next ∙ ap (λ o. then_fits o others) (c.in_ok-fits-in-len1-up-values-2.ensures ∙ ap (fit_if (within global (map input c.fits.new.inputs.items))) c.if-not-branch.false) in
    subst (λ o. Gives (λ fits. cond fits (Some (within global (map input c.fitting.new.inputs.items))) None) c.fitting.result o) (sym same) c.fitting.ensures
