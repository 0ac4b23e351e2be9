use Rattle.std.proofs.Common.{subst, List}
use Rattle.tokens.specs.Lexeme.{Lexeme}
use Rattle.syntax.specs.Script.{IsScript}
use Rattle.syntax.proofs.Complete.{one_tree}
use Rattle.syntax.proofs.law.one_tree.Goals as goal

pub returns-clause-text : goal.returns-clause-text
returns-clause-text c = λ text t u h j.
    one_tree h.tokens t u h.is (subst (λ (toks : List Lexeme). IsScript toks u) (c.one_token_list.ensures text j.tokens h.tokens j.read h.read) j.is)
