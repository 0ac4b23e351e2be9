use Rattle.std.proofs.Common.{sym, ap, ◌∙◌}
use Rattle.syntax.specs.Parsing.{phrase_form}
use Rattle.syntax.proofs.NextTokens.{first_there, none_there, some_form}
use Rattle.syntax.proofs.ahead.phrase_form.Goals as goal

pub returns-in-empty : goal.returns-in-empty
unfolding phrase_form
returns-in-empty g c = sym (ap phrase_form (none_there c.args.tokens.now c.in-empty.len_below))

pub returns-in-Name : goal.returns-in-Name
unfolding phrase_form
returns-in-Name g c = ap some_form c.of_name.ensures ∙ sym (ap phrase_form (first_there c.args.tokens.now c.first-item.result _ c.in-len1-up.len_at_least c.first-item.is c.in-Name.is))

pub returns-in-Keyword : goal.returns-in-Keyword
unfolding phrase_form
returns-in-Keyword g c = c.of_word.ensures ∙ sym (ap phrase_form (first_there c.args.tokens.now c.first-item.result _ c.in-len1-up.len_at_least c.first-item.is c.in-Keyword.is))

pub returns-in-Symbol : goal.returns-in-Symbol
unfolding phrase_form
returns-in-Symbol g c = c.of_sign.ensures ∙ sym (ap phrase_form (first_there c.args.tokens.now c.first-item.result _ c.in-len1-up.len_at_least c.first-item.is c.in-Symbol.is))

pub returns-in-Number : goal.returns-in-Number
unfolding phrase_form
returns-in-Number g c = sym (ap phrase_form (first_there c.args.tokens.now c.first-item.result _ c.in-len1-up.len_at_least c.first-item.is c.in-Number.is))
