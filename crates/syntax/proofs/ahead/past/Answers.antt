use Rattle.std.proofs.Common.{refl, sym, ap, ◌∙◌}
use Rattle.syntax.specs.Parsing.{after}
use Rattle.syntax.proofs.NextTokens.{first_there, kept_where, none_there}
use Rattle.syntax.proofs.ahead.past.Goals as goal

pub returns-in-empty : goal.returns-in-empty
unfolding after
returns-in-empty g c = sym (ap (after c.args.sign) (none_there c.args.tokens.now c.in-empty.len_below))

pub returns-then-is_sign : goal.returns-then-is_sign
unfolding after
returns-then-is_sign g c = sym (ap (after c.args.sign) (first_there c.args.tokens.now c.first-item.result _ c.in-len1-up.len_at_least c.first-item.is refl) ∙ ap (kept_where _) (sym c.is_sign.ensures ∙ c.if-is_sign.true))

pub returns-else-is_sign : goal.returns-else-is_sign
unfolding after
returns-else-is_sign g c = sym (ap (after c.args.sign) (first_there c.args.tokens.now c.first-item.result _ c.in-len1-up.len_at_least c.first-item.is refl) ∙ ap (kept_where _) (sym c.is_sign.ensures ∙ c.if-is_sign.false))
