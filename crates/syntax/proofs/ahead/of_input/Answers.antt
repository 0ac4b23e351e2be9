use Rattle.std.proofs.Common.{cond, refl, sym, ap, ◌∙◌}
use Rattle.syntax.specs.declared.form.Form.TheVariants as forms
use Rattle.syntax.specs.Parsing.{input_form}
use Rattle.syntax.proofs.NextTokens.{by_colon, first_there, no_name, none_there}
use Rattle.syntax.proofs.ahead.of_input.Goals as goal

pub returns-in-empty : goal.returns-in-empty
unfolding input_form
returns-in-empty g c = sym (ap input_form (none_there c.args.tokens.now c.in-empty.len_below))

pub returns-then-begins_with : goal.returns-then-begins_with
returns-then-begins_with g c = sym (ap input_form (first_there c.args.tokens.now c.first-item.result _ c.in-len1-up.len_at_least c.first-item.is c.in-Name.is) ∙ by_colon c.in-Name.field-0.items _ ∙ ap (λ b. cond b forms.RestrictedInput forms.Input) (sym c.begins_with.ensures ∙ c.if-begins_with.true))

pub returns-else-begins_with : goal.returns-else-begins_with
returns-else-begins_with g c = sym (ap input_form (first_there c.args.tokens.now c.first-item.result _ c.in-len1-up.len_at_least c.first-item.is c.in-Name.is) ∙ by_colon c.in-Name.field-0.items _ ∙ ap (λ b. cond b forms.RestrictedInput forms.Input) (sym c.begins_with.ensures ∙ c.if-begins_with.false))

pub returns-in_default : goal.returns-in_default
returns-in_default g c = sym (ap input_form (first_there c.args.tokens.now c.first-item.result _ c.in-len1-up.len_at_least c.first-item.is refl) ∙ no_name c.first-item.result.word _ c.in_default.not-Name)
