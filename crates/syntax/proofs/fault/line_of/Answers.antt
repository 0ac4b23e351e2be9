use Rattle.syntax.proofs.NextTokens.{first_line_is, no_line}
use Rattle.syntax.proofs.fault.line_of.Goals as goal

pub returns-in-empty : goal.returns-in-empty
returns-in-empty g c = no_line c.args.tokens.now c.in-empty.len_below

pub returns-in-len1-up : goal.returns-in-len1-up
returns-in-len1-up g c = first_line_is c.args.tokens.now c.first-item.result c.in-len1-up.len_at_least c.first-item.is
