use Rattle.std.proofs.Common.{refl, sym, ap, ◌∙◌}
use Rattle.syntax.specs.Parsing.{begins_field}
use Rattle.syntax.proofs.NextTokens.{field_alone, first_there, no_field, none_there, nothing_begins}
use Rattle.syntax.proofs.ahead.begins_field.Goals as goal

pub returns-in-empty : goal.returns-in-empty
returns-in-empty g c = sym (ap (begins_field c.args.fields) (none_there c.args.tokens.now c.in-empty.len_below) ∙ nothing_begins c.args.fields)

pub returns-in-Symbol : goal.returns-in-Symbol
returns-in-Symbol g c = c.is_field_sign.ensures ∙ sym (ap (begins_field c.args.fields) (first_there c.args.tokens.now c.first-item.result _ c.in-len1-up.len_at_least c.first-item.is c.in-Symbol.is) ∙ field_alone c.args.fields c.in-Symbol.symbol _)

pub returns-in_default : goal.returns-in_default
returns-in_default g c = sym (ap (begins_field c.args.fields) (first_there c.args.tokens.now c.first-item.result _ c.in-len1-up.len_at_least c.first-item.is refl) ∙ no_field c.args.fields c.first-item.result.word _ c.in_default.not-Symbol)
