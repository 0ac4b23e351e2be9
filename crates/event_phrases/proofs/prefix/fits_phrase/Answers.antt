use Rattle.std.proofs.Common.{Bool, true, false, Some, None, cond, map, refl, subst, sym, ap, ◌∙◌}
use Rattle.std.specs.Option.{option_map}
use Rattle.std.proofs.lemmas.Result.{err_from_is_err_and}
use Rattle.syntax.specs.View.{shape}
use Rattle.values.specs.Tables.{input}
use Rattle.values.specs.Values.{is_among}
use Rattle.values.specs.View.{Fails, Gives, value}
use Rattle.event_phrases.specs.Fitting.{against, fits_field}
use Rattle.event_phrases.specs.Forms.{FieldPhrase}
use Rattle.event_phrases.specs.Scopes.{value_by, values_by, with_input, within}
use Rattle.event_phrases.specs.Shapes.{plain_field}
use Rattle.event_phrases.specs.View.{listed}
use Rattle.event_phrases.proofs.FieldForms.{input_refused, input_fits, part_refused, part_fails, part_fits}
use Rattle.event_phrases.proofs.Options.{some_truth}
use Rattle.event_phrases.proofs.Scopes.{behind_input}
use Rattle.syntax.proofs.Failing.{fails_none}
use Rattle.event_phrases.proofs.prefix.fits_phrase.Goals as goal

pub returns-in-Given : goal.returns-in-Given
unfolding fits_field
returns-in-Given g c =
    let scope = g.G.GlobalScope.scope c.args.global.now in
    let s = within scope (map input c.args.inputs.now.items) in
    let set = listed c.args.set.now.items in
    let v = value c.args.value.now in
    let t = shape c.in-Given.tree.now in
    let at = λ (f : FieldPhrase). fits_field f set v s in
    let here = subst (λ is. Gives (λ b. cond b (Some (within scope (map input is))) None) c.is_given.result (against set v (within scope (map input is)) (value_by (within scope (map input is)) t))) c.deref.ensures.value c.is_given.ensures in
    subst (λ o. Gives (λ b. cond b (Some s) None) c.is_given.result o) (sym (ap at (ap plain_field c.in-Given.is))) here

pub returns-then-is_constant : goal.returns-then-is_constant
returns-then-is_constant g c =
    let s = within (g.G.GlobalScope.scope c.args.global.now) (map input c.args.inputs.now.items) in
    let set = listed c.args.set.now.items in
    let v = value c.args.value.now in
    let at = λ (f : FieldPhrase). fits_field f set v s in
    fails_none c.fault.result (at (plain_field c.args.phrase)) (ap at (ap plain_field c.in-Input.is) ∙ input_refused set v s c.in-Input.name.now (sym c.is_constant.ensures ∙ c.if-is_constant.true))

pub returns-in_ok-push_input-in-Input : goal.returns-in_ok-push_input-in-Input
returns-in_ok-push_input-in-Input g c =
    let scope = g.G.GlobalScope.scope c.args.global.now in
    let is = map input c.args.inputs.now.items in
    let js = map input c.push_input.new.inputs.items in
    let x = c.in-Input.name.now in
    let s = within scope is in
    let set = listed c.args.set.now.items in
    let v = value c.args.value.now in
    let at = λ (f : FieldPhrase). fits_field f set v s in
    ap at (ap plain_field c.in-Input.is) ∙ input_fits set v s x (within scope js) (sym c.is_constant.ensures ∙ c.if-is_constant.false) (behind_input scope is js x v c.in_ok-push_input-in-Input.ensures)

pub returns-then-is_constant-2 : goal.returns-then-is_constant-2
returns-then-is_constant-2 g c =
    let s = within (g.G.GlobalScope.scope c.args.global.now) (map input c.args.inputs.now.items) in
    let set = listed c.args.set.now.items in
    let v = value c.args.value.now in
    let at = λ (f : FieldPhrase). fits_field f set v s in
    fails_none c.fault-then-is_constant-2.result (at (plain_field c.args.phrase)) (ap at (ap plain_field c.in-InputFrom.is) ∙ part_refused set v s c.in-InputFrom.name.now (shape c.in-InputFrom.tree.now) (sym c.is_constant-in-InputFrom.ensures ∙ c.if-is_constant-2.true))

pub returns-in_err-is_in_part-in-InputFrom : goal.returns-in_err-is_in_part-in-InputFrom
returns-in_err-is_in_part-in-InputFrom g c =
    let scope = g.G.GlobalScope.scope c.args.global.now in
    let s = within scope (map input c.args.inputs.now.items) in
    let set = listed c.args.set.now.items in
    let v = value c.args.value.now in
    let t = shape c.in-InputFrom.tree.now in
    let k = c.in_err-is_in_part-in-InputFrom.field-0.0 in
    let at = λ (f : FieldPhrase). fits_field f set v s in
    let q = err_from_is_err_and c.from_residual-in_err-is_in_part-in-InputFrom.result c.from_residual-in_err-is_in_part-in-InputFrom.ensures.1 in
    let e = subst (λ is. Fails k (option_map (is_among v) (values_by (within scope (map input is)) t))) c.deref-in-InputFrom.ensures.value c.in_err-is_in_part-in-InputFrom.ensures in
    rw (q.1, q.2) (subst (λ o. Fails k o) (sym (ap at (ap plain_field c.in-InputFrom.is))) (part_fails set v s c.in-InputFrom.name.now t k e))

pub returns-then-not-branch : goal.returns-then-not-branch
returns-then-not-branch g c =
    let scope = g.G.GlobalScope.scope c.args.global.now in
    let s = within scope (map input c.args.inputs.now.items) in
    let set = listed c.args.set.now.items in
    let v = value c.args.value.now in
    let x = c.in-InputFrom.name.now in
    let t = shape c.in-InputFrom.tree.now in
    let at = λ (f : FieldPhrase). fits_field f set v s in
    let e = ap (λ is. option_map (is_among v) (values_by (within scope (map input is)) t)) (sym c.deref-in-InputFrom.ensures.value) ∙ c.in_ok-is_in_part-in-InputFrom.ensures in
    ap at (ap plain_field c.in-InputFrom.is) ∙ part_fits set v s x t false (with_input s x v) (sym c.is_constant-in-InputFrom.ensures ∙ c.if-is_constant-2.false) (e ∙ ap some_truth c.if-not-branch.true) refl

pub returns-in_ok-push_input-in-InputFrom : goal.returns-in_ok-push_input-in-InputFrom
returns-in_ok-push_input-in-InputFrom g c =
    let scope = g.G.GlobalScope.scope c.args.global.now in
    let is = map input c.args.inputs.now.items in
    let js = map input c.push_input-in-InputFrom.new.inputs.items in
    let s = within scope is in
    let set = listed c.args.set.now.items in
    let x = c.in-InputFrom.name.now in
    let v = value c.args.value.now in
    let t = shape c.in-InputFrom.tree.now in
    let at = λ (f : FieldPhrase). fits_field f set v s in
    let e = ap (λ is. option_map (is_among v) (values_by (within scope (map input is)) t)) (sym c.deref-in-InputFrom.ensures.value) ∙ c.in_ok-is_in_part-in-InputFrom.ensures in
    ap at (ap plain_field c.in-InputFrom.is) ∙ part_fits set v s x t true (within scope js) (sym c.is_constant-in-InputFrom.ensures ∙ c.if-is_constant-2.false) (e ∙ ap some_truth c.if-not-branch.false) (behind_input scope is js x v c.in_ok-push_input-in-InputFrom.ensures)
