use Rattle.std.proofs.Common.{refl, sym, ap, ◌∙◌}
use Rattle.syntax.specs.Parsing.{field_form}
use Rattle.syntax.proofs.NextTokens.{first_there, no_field_form, none_there}
use Rattle.syntax.proofs.ahead.field_form.Goals as goal

pub returns-in-empty : goal.returns-in-empty
unfolding field_form
returns-in-empty g c = sym (ap field_form (none_there c.args.tokens.now c.in-empty.len_below))

pub returns-in-Symbol : goal.returns-in-Symbol
returns-in-Symbol g c = c.field_of_sign.ensures ∙ sym (ap field_form (first_there c.args.tokens.now c.first-item.result _ c.in-len1-up.len_at_least c.first-item.is c.in-Symbol.is))

pub returns-in_default : goal.returns-in_default
returns-in_default g c = sym (ap field_form (first_there c.args.tokens.now c.first-item.result _ c.in-len1-up.len_at_least c.first-item.is refl) ∙ no_field_form c.first-item.result.word _ c.in_default.not-Symbol)
