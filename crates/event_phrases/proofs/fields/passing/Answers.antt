use Rattle.std.proofs.Common.{◌∷◌, map, sym, ap, subst, ◌∙◌}
use Rattle.std.specs.Option.{option_map}
use Rattle.std.proofs.lemmas.Result.{err_from_is_err_and}
use Rattle.syntax.specs.View.{shape, shapes}
use Rattle.values.specs.Tables.{input}
use Rattle.values.specs.View.{Fails}
use Rattle.event_phrases.specs.Forms.{FieldPhrase, field_of}
use Rattle.event_phrases.specs.Prefixes.{all_pass, fields_pass, scopes_after}
use Rattle.event_phrases.specs.Scopes.{with_input, within}
use Rattle.event_phrases.specs.Shapes.{plain_field}
use Rattle.event_phrases.specs.Uses.{chosen_values, passes_after}
use Rattle.event_phrases.specs.View.{listed}
use Rattle.event_phrases.proofs.Passing.{looked_so, given_passes, input_passes, part_passes, part_fails}
use Rattle.event_phrases.proofs.fields.passing.Goals as goal

pub returns-in_ok-value_passes-in-Given : goal.returns-in_ok-value_passes-in-Given
unfolding passes_after
returns-in_ok-value_passes-in-Given g c =
    let fs = map field_of (shapes c.args.rest.0.now) in
    let sets = map (λ v. listed v.items) c.args.rest.1.now in
    let s = within (g.G.GlobalScope.scope c.args.global.now) (map input c.args.inputs.now) in
    let set = listed c.args.set.now.items in
    let at = λ (f : FieldPhrase). fields_pass (f ∷ fs) (set ∷ sets) s in
    ap at (ap plain_field c.in-Given.is) ∙ given_passes fs sets s set (shape c.in-Given.tree.now) c.in_ok-value_passes-in-Given.ensures

pub returns-else-is_constant : goal.returns-else-is_constant
returns-else-is_constant g c =
    let fs = map field_of (shapes c.args.rest.0.now) in
    let sets = map (λ v. listed v.items) c.args.rest.1.now in
    let s = within (g.G.GlobalScope.scope c.args.global.now) (map input c.args.inputs.now) in
    let set = listed c.args.set.now.items in
    let at = λ (f : FieldPhrase). fields_pass (f ∷ fs) (set ∷ sets) s in
    let x = c.in-Input.name.now in
    looked_so c.looked_at.result (at (plain_field c.args.phrase)) (λ s. all_pass (fields_pass fs sets) (map (with_input s x) (listed c.deref.result.now))) (λ s o. passes_after fs sets s (option_map (λ p. (p.0.now, listed p.1.items)) o)) s
    (ap at (ap plain_field c.in-Input.is) ∙ input_passes fs sets s set x (sym c.is_constant.ensures ∙ c.if-is_constant.false)
    ∙ ap (λ vs. all_pass (fields_pass fs sets) (map (with_input s x) (listed vs))) (sym c.deref.ensures.value)) c.looked_at.ensures

pub returns-in_err-values-in-InputFrom : goal.returns-in_err-values-in-InputFrom
returns-in_err-values-in-InputFrom g c =
    let fs = map field_of (shapes c.args.rest.0.now) in
    let sets = map (λ v. listed v.items) c.args.rest.1.now in
    let s = within (g.G.GlobalScope.scope c.args.global.now) (map input c.args.inputs.now) in
    let set = listed c.args.set.now.items in
    let at = λ (f : FieldPhrase). fields_pass (f ∷ fs) (set ∷ sets) s in
    let t = shape c.in-InputFrom.tree.now in
    let k = c.in_err-values-in-InputFrom.field-0.0 in
    let p = err_from_is_err_and c.from_residual-in_err-values-in-InputFrom.result c.from_residual-in_err-values-in-InputFrom.ensures.1 in
    let e = subst (λ vs. Fails k (chosen_values s t (listed vs))) c.deref-in-InputFrom.ensures.value c.in_err-values-in-InputFrom.ensures in
    rw (p.1, p.2) (subst (λ o. Fails k o) (sym (ap at (ap plain_field c.in-InputFrom.is))) (part_fails fs sets s set c.in-InputFrom.name.now (sym c.is_constant-in-InputFrom.ensures ∙ c.if-is_constant-2.false) t k e))

pub returns-in_ok-values-in-InputFrom : goal.returns-in_ok-values-in-InputFrom
returns-in_ok-values-in-InputFrom g c =
    let fs = map field_of (shapes c.args.rest.0.now) in
    let sets = map (λ v. listed v.items) c.args.rest.1.now in
    let s = within (g.G.GlobalScope.scope c.args.global.now) (map input c.args.inputs.now) in
    let set = listed c.args.set.now.items in
    let at = λ (f : FieldPhrase). fields_pass (f ∷ fs) (set ∷ sets) s in
    let x = c.in-InputFrom.name.now in
    let t = shape c.in-InputFrom.tree.now in
    let e = ap (λ vs. chosen_values s t (listed vs)) (sym c.deref-in-InputFrom.ensures.value) ∙ c.in_ok-values-in-InputFrom.ensures in
    looked_so c.looked_at-in-InputFrom.result (at (plain_field c.args.phrase)) (λ s. all_pass (fields_pass fs sets) (map (with_input s x) (listed c.deref-in-InputFrom-2.result.now))) (λ s o. passes_after fs sets s (option_map (λ p. (p.0.now, listed p.1.items)) o)) s
    (ap at (ap plain_field c.in-InputFrom.is) ∙ part_passes fs sets s set x (sym c.is_constant-in-InputFrom.ensures ∙ c.if-is_constant-2.false) t (listed c.in_ok-values-in-InputFrom.values.items) e
    ∙ ap (λ vs. all_pass (fields_pass fs sets) (map (with_input s x) (listed vs))) (sym c.deref-in-InputFrom-2.ensures.value)) c.looked_at-in-InputFrom.ensures
