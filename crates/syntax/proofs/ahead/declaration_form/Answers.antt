use Rattle.std.proofs.Common.{refl, sym, ap, ◌∙◌}
use Rattle.syntax.specs.Parsing.{declaration_form}
use Rattle.syntax.proofs.NextTokens.{declaration_alone, first_there, no_declaration, none_there, some_form}
use Rattle.syntax.proofs.ahead.declaration_form.Goals as goal

pub returns-in-empty : goal.returns-in-empty
unfolding declaration_form
returns-in-empty g c = sym (ap declaration_form (none_there c.args.tokens.now c.in-empty.len_below))

pub returns-in-Keyword : goal.returns-in-Keyword
returns-in-Keyword g c = c.declaration_of_word.ensures ∙ sym (ap declaration_form (first_there c.args.tokens.now c.first-item.result _ c.in-len1-up.len_at_least c.first-item.is c.in-Keyword.is) ∙ declaration_alone c.in-Keyword.keyword _)

pub returns-in-Name : goal.returns-in-Name
unfolding declaration_form
returns-in-Name g c = ap some_form c.of_defined.ensures ∙ sym (ap declaration_form (first_there c.args.tokens.now c.first-item.result _ c.in-len1-up.len_at_least c.first-item.is c.in-Name.is))

pub returns-in_default : goal.returns-in_default
returns-in_default g c = sym (ap declaration_form (first_there c.args.tokens.now c.first-item.result _ c.in-len1-up.len_at_least c.first-item.is refl) ∙ no_declaration c.first-item.result.word _ c.in_default.not-Keyword c.in_default.not-Name)
