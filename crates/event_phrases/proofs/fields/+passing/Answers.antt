use Rattle.std.proofs.Common.{rules, ◌≡◌, ◌++◌, ◌∷◌, [], ◌+◌, ◌*◌, ◌-◌, ◌<◌, arith, ap, drop, length, map, refl, subst, sym, take, ap₂, ◌∙◌}
use Rattle.std.proofs.lemmas.List.{length-drop}
use Rattle.std.proofs.lemmas.Result.{err_from_is_err_and}
use Rattle.alphabet.specs.Channels.{FieldValue}
use Rattle.syntax.specs.View.{shape, shapes}
use Rattle.values.specs.Tables.{input}
use Rattle.values.specs.View.{Fails, Gives, value}
use Rattle.event_phrases.specs.Forms.{field_of, no_field}
use Rattle.event_phrases.specs.Prefixes.{all_pass, fields_pass, scopes_after}
use Rattle.event_phrases.specs.Scopes.{with_input, within}
use Rattle.event_phrases.specs.Shapes.{plain_field}
use Rattle.event_phrases.specs.Uses.{passes_after}
use Rattle.event_phrases.specs.View.{listed}
use Rattle.event_phrases.proofs.Passing.{turn_passes, turn_fails, all_passed, first_field}
use Rattle.event_phrases.proofs.Scopes.{behind_input, first_item, no_items, rest_is}
use Rattle.syntax.proofs.Failing.{fails_none}
use Rattle.event_phrases.proofs.fields.+passing.Goals as goal

pub all_pass-loop-value-init : goal.all_pass-loop-value-init
all_pass-loop-value-init g t c = refl

pub all_pass-loop-value-preserved : goal.all_pass-loop-value-preserved
all_pass-loop-value-preserved g t c =
    let scope = g.G.GlobalScope.scope c.args.global.now in
    let s = within scope (map input c.args.inputs.now) in
    let ts = map field_of (shapes c.args.rest.0.now) in
    let sets = map (λ v. listed v.items) c.args.rest.1.now in
    let x = c.args.name.now in
    let test = λ (v : FieldValue). fields_pass ts sets (with_input s x v) in
    let v = value c.value-item.result in
    let e = behind_input scope (map input c.args.inputs.now) (map input c.push_input.new.inputs.items) x v (c.in_ok-push_input.ensures ∙ ap (λ is. is ++ (x, v) ∷ []) c.in_ok-inner.ensures) in
    let here : test v ≡ fields_pass ts sets (within scope (map input c.deref.result.now)) = ap (fields_pass ts sets) (sym e) ∙ ap (λ is. fields_pass ts sets (within scope (map input is))) (sym c.deref.ensures.value) in
    turn_passes value test c.args.values.now c.loop-value.value-index c.value-item.result (omega arith) c.value-item.is (here ∙ c.in_ok-fields_pass.ensures) ∙ c.loop-value.invariant

pub all_pass-returns-in_err-fields_pass : goal.all_pass-returns-in_err-fields_pass
all_pass-returns-in_err-fields_pass g t c =
    let scope = g.G.GlobalScope.scope c.args.global.now in
    let s = within scope (map input c.args.inputs.now) in
    let ts = map field_of (shapes c.args.rest.0.now) in
    let sets = map (λ v. listed v.items) c.args.rest.1.now in
    let x = c.args.name.now in
    let test = λ (v : FieldValue). fields_pass ts sets (with_input s x v) in
    let v = value c.value-item.result in
    let e = behind_input scope (map input c.args.inputs.now) (map input c.push_input.new.inputs.items) x v (c.in_ok-push_input.ensures ∙ ap (λ is. is ++ (x, v) ∷ []) c.in_ok-inner.ensures) in
    let here : test v ≡ fields_pass ts sets (within scope (map input c.deref.result.now)) = ap (fields_pass ts sets) (sym e) ∙ ap (λ is. fields_pass ts sets (within scope (map input is))) (sym c.deref.ensures.value) in
    let k = c.in_err-fields_pass.field-0.0 in
    let p = err_from_is_err_and c.from_residual-in_err-fields_pass.result c.from_residual-in_err-fields_pass.ensures.1 in
    rw (p.1, p.2) (turn_fails value test c.args.values.now c.loop-value.value-index c.value-item.result (omega arith) c.value-item.is k c.loop-value.invariant (subst (λ o. Fails k o) (sym here) c.in_err-fields_pass.ensures))

pub all_pass-returns : goal.all_pass-returns
all_pass-returns g t c =
    let scope = g.G.GlobalScope.scope c.args.global.now in
    let s = within scope (map input c.args.inputs.now) in
    let ts = map field_of (shapes c.args.rest.0.now) in
    let sets = map (λ v. listed v.items) c.args.rest.1.now in
    let x = c.args.name.now in
    let test = λ (v : FieldValue). fields_pass ts sets (with_input s x v) in
    all_passed value test c.args.values.now c.loop-value.value-index (omega arith) c.loop-value.invariant

pub fields_pass-returns-in_err-passing-in-Some : goal.fields_pass-returns-in_err-passing-in-Some
fields_pass-returns-in_err-passing-in-Some g t c =
    let s = within (g.G.GlobalScope.scope c.args.global.now) (map input c.args.inputs.now) in
    let phrase = plain_field c.in-Some.phrase in
    let whole = first_field shape (λ v. listed v.items) c.args.fields.now c.args.sets.now c.tree-item.result c.set-item.result phrase s c.in-len1-up.len_at_least c.in-len1-up-sets.len_at_least c.tree-item.is c.set-item.is c.in-Some.ensures in
    let k = c.in_err-passing-in-Some.field-0.0 in
    let p = err_from_is_err_and c.from_residual.result c.from_residual.ensures.1 in
    rw (p.1, p.2) (subst (λ o. Fails k o) (sym whole) c.in_err-passing-in-Some.ensures)

pub fields_pass-returns-in-None-2 : goal.fields_pass-returns-in-None-2
unfolding passes_after
fields_pass-returns-in-None-2 g t c =
    let s = within (g.G.GlobalScope.scope c.args.global.now) (map input c.args.inputs.now) in
    let set = listed c.set-item.result.items in
    let phrase = plain_field c.in-Some.phrase in
    let rest = take (length c.args.fields.now - 1) (drop 1 c.args.fields.now) in
    let others = take (length c.args.sets.now - 1) (drop 1 c.args.sets.now) in
    let whole = first_field shape (λ v. listed v.items) c.args.fields.now c.args.sets.now c.tree-item.result c.set-item.result phrase s c.in-len1-up.len_at_least c.in-len1-up-sets.len_at_least c.tree-item.is c.set-item.is c.in-Some.ensures in
    let onward : fields_pass (phrase ∷ map field_of (shapes rest)) (set ∷ map (λ v. listed v.items) others) s ≡ fields_pass (map field_of (shapes rest)) (map (λ v. listed v.items) others) s = rw c.in-None-2.is at c.in_ok-passing-in-Some.ensures in
    subst (λ o. Gives (λ u. u) c.fields_pass.result o) (sym (whole ∙ onward)) c.fields_pass.ensures

pub fields_pass-returns-in-Some-2 : goal.fields_pass-returns-in-Some-2
unfolding passes_after
fields_pass-returns-in-Some-2 g t c =
    let s = within (g.G.GlobalScope.scope c.args.global.now) (map input c.args.inputs.now) in
    let set = listed c.set-item.result.items in
    let phrase = plain_field c.in-Some.phrase in
    let rest = take (length c.args.fields.now - 1) (drop 1 c.args.fields.now) in
    let others = take (length c.args.sets.now - 1) (drop 1 c.args.sets.now) in
    let whole = first_field shape (λ v. listed v.items) c.args.fields.now c.args.sets.now c.tree-item.result c.set-item.result phrase s c.in-len1-up.len_at_least c.in-len1-up-sets.len_at_least c.tree-item.is c.set-item.is c.in-Some.ensures in
    let each = all_pass (λ v. fields_pass (map field_of (shapes rest)) (map (λ v. listed v.items) others) (with_input s c.in-Some-2.name.now v)) in
    let onward : fields_pass (phrase ∷ map field_of (shapes rest)) (set ∷ map (λ v. listed v.items) others) s ≡ each (listed c.in-Some-2.values.items) = rw c.in-Some-2.is at c.in_ok-passing-in-Some.ensures in
    subst (λ o. Gives (λ u. u) c.all_pass.result o) (sym (whole ∙ onward ∙ ap (λ vs. each (listed vs)) (sym c.deref.ensures.value))) c.all_pass.ensures

pub fields_pass-returns-in-empty : goal.fields_pass-returns-in-empty
unfolding fields_pass
fields_pass-returns-in-empty g t c =
    let s = within (g.G.GlobalScope.scope c.args.global.now) (map input c.args.inputs.now) in
    ap (λ ts. fields_pass (map field_of (shapes ts)) (map (λ v. listed v.items) c.args.sets.now) s) (no_items c.args.fields.now c.in-empty.len_below)

pub fields_pass-returns-in-empty-sets : goal.fields_pass-returns-in-empty-sets
unfolding fields_pass
fields_pass-returns-in-empty-sets g t c =
    let s = within (g.G.GlobalScope.scope c.args.global.now) (map input c.args.inputs.now) in
    let ef = first_item c.args.fields.now c.tree-item.result c.in-len1-up.len_at_least c.tree-item.is in
    ap₂ (λ ts vs. fields_pass (map field_of (shapes ts)) (map (λ v. listed v.items) vs) s) ef (no_items c.args.sets.now c.in-empty-sets.len_below)

pub fields_pass-returns-in-None : goal.fields_pass-returns-in-None
unfolding fields_pass scopes_after
fields_pass-returns-in-None g t c =
    let s = within (g.G.GlobalScope.scope c.args.global.now) (map input c.args.inputs.now) in
    fails_none c.fault.result (fields_pass (map field_of (shapes c.args.fields.now)) (map (λ v. listed v.items) c.args.sets.now) s)
    (first_field shape (λ v. listed v.items) c.args.fields.now c.args.sets.now c.tree-item.result c.set-item.result no_field s c.in-len1-up.len_at_least c.in-len1-up-sets.len_at_least c.tree-item.is c.set-item.is c.in-None.ensures)

pub all_pass-fields_pass-requires : goal.all_pass-fields_pass-requires
all_pass-fields_pass-requires g t c κs within =
    let m : 2 * length c.args.rest.0.now < 2 * length c.args.rest.0.now + 1 = omega arith in
    search (rules, m)

pub fields_pass-fields_pass-requires : goal.fields_pass-fields_pass-requires
fields_pass-fields_pass-requires g t c κs within =
    let m : 2 * length (take (length c.args.fields.now - 1) (drop 1 c.args.fields.now)) < 2 * length c.args.fields.now = omega (arith, ap length (rest_is c.args.fields.now), length-drop 1 c.args.fields.now, c.in-len1-up.len_at_least) in
    search (rules, m)

pub fields_pass-all_pass-requires : goal.fields_pass-all_pass-requires
fields_pass-all_pass-requires g t c κs within =
    let m : 2 * length (take (length c.args.fields.now - 1) (drop 1 c.args.fields.now)) + 1 < 2 * length c.args.fields.now = omega (arith, ap length (rest_is c.args.fields.now), length-drop 1 c.args.fields.now, c.in-len1-up.len_at_least) in
    search (rules, m)
