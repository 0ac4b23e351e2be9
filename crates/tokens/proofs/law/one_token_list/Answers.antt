use Rattle.tokens.proofs.Whole.{tokens_unique}
use Rattle.tokens.proofs.law.one_token_list.Goals as goal

pub returns : goal.returns
returns c = λ text ws vs a b. tokens_unique text ws vs a.1 b.1
