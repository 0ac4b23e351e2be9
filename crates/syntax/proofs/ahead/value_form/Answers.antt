use Rattle.std.proofs.Common.{refl, sym, ap, ◌∙◌}
use Rattle.syntax.specs.Parsing.{value_form}
use Rattle.syntax.proofs.NextTokens.{first_there, no_value, none_there, value_alone}
use Rattle.syntax.proofs.ahead.value_form.Goals as goal

pub returns-in-empty : goal.returns-in-empty
unfolding value_form
returns-in-empty g c = sym (ap value_form (none_there c.args.tokens.now c.in-empty.len_below))

pub returns-in-Name : goal.returns-in-Name
unfolding value_form
returns-in-Name g c = sym (ap value_form (first_there c.args.tokens.now c.first-item.result _ c.in-len1-up.len_at_least c.first-item.is c.in-Name.is))

pub returns-in-Symbol : goal.returns-in-Symbol
returns-in-Symbol g c = c.value_of_sign.ensures ∙ sym (ap value_form (first_there c.args.tokens.now c.first-item.result _ c.in-len1-up.len_at_least c.first-item.is c.in-Symbol.is) ∙ value_alone c.in-Symbol.symbol _)

pub returns-in_default : goal.returns-in_default
returns-in_default g c = sym (ap value_form (first_there c.args.tokens.now c.first-item.result _ c.in-len1-up.len_at_least c.first-item.is refl) ∙ no_value c.first-item.result.word _ c.in_default.not-Name c.in_default.not-Symbol)
