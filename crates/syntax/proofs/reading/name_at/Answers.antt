use Rattle.std.proofs.Common.{rules, refl, ap, ◌∙◌}
use Rattle.syntax.specs.Parsing.{name_at}
use Rattle.syntax.proofs.Failing.{fails_none}
use Rattle.syntax.proofs.NextTokens.{first_there, no_called, none_there}
use Rattle.syntax.proofs.reading.name_at.Goals as goal

pub returns-in-empty-clause-read : goal.returns-in-empty-clause-read
unfolding name_at
returns-in-empty-clause-read g c = rw c.expected.ensures (ap name_at (none_there c.args.tokens.now c.in-empty.len_below))

pub returns-in_default : goal.returns-in_default
returns-in_default g c = record {
  read = fails_none c.expected-in_default.result _ (ap name_at (first_there c.args.tokens.now c.first-item.result _ c.in-len1-up.len_at_least c.first-item.is refl) ∙ no_called c.first-item.result.word _ c.in_default.not-Name);
  low = search rules;
}
