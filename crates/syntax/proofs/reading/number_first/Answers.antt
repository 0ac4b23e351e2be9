use Rattle.std.proofs.Common.{refl, sym, ap, ◌∙◌}
use Rattle.syntax.specs.Parsing.{number_at}
use Rattle.syntax.proofs.NextTokens.{first_there, no_numeral, none_there}
use Rattle.syntax.proofs.reading.number_first.Goals as goal

pub returns-in-empty-clause-read : goal.returns-in-empty-clause-read
unfolding number_at
returns-in-empty-clause-read g c = sym (ap number_at (none_there c.args.tokens.now c.in-empty.len_below))

pub returns-in-Number-clause-read : goal.returns-in-Number-clause-read
unfolding number_at
returns-in-Number-clause-read g c = sym (ap number_at (first_there c.args.tokens.now c.first-item.result _ c.in-len1-up.len_at_least c.first-item.is c.in-Number.is))

pub returns-in_default-clause-read : goal.returns-in_default-clause-read
returns-in_default-clause-read g c = sym (ap number_at (first_there c.args.tokens.now c.first-item.result _ c.in-len1-up.len_at_least c.first-item.is refl) ∙ no_numeral c.first-item.result.word _ c.in_default.not-Number)
