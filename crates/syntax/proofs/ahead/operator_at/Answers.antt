use Rattle.std.proofs.Common.{refl, sym, ap, ◌∙◌}
use Rattle.syntax.specs.Parsing.{operator_at}
use Rattle.syntax.proofs.NextTokens.{first_there, none_there, with_rest}
use Rattle.syntax.proofs.ahead.operator_at.Goals as goal

pub returns-in-empty : goal.returns-in-empty
unfolding operator_at
returns-in-empty g c = sym (ap operator_at (none_there c.args.tokens.now c.in-empty.len_below))

pub returns-in-Some : goal.returns-in-Some
unfolding operator_at
returns-in-Some g c = sym (ap operator_at (first_there c.args.tokens.now c.first-item.result _ c.in-len1-up.len_at_least c.first-item.is refl) ∙ ap (with_rest _) (sym c.operator_of.ensures ∙ c.in-Some.is))

pub returns-in-None : goal.returns-in-None
unfolding operator_at
returns-in-None g c = sym (ap operator_at (first_there c.args.tokens.now c.first-item.result _ c.in-len1-up.len_at_least c.first-item.is refl) ∙ ap (with_rest _) (sym c.operator_of.ensures ∙ c.in-None.is))
