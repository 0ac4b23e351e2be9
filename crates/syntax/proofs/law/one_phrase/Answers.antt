use Rattle.std.proofs.Common.{subst, List}
use Rattle.tokens.specs.Lexeme.{Lexeme}
use Rattle.syntax.specs.Script.{IsPhrase}
use Rattle.syntax.proofs.Complete.{one_phrase}
use Rattle.syntax.proofs.law.one_phrase.Goals as goal

pub returns : goal.returns
returns c = λ text t u h j.
    one_phrase h.tokens t u h.is (subst (λ (toks : List Lexeme). IsPhrase toks u) (c.one_token_list.ensures text j.tokens h.tokens j.read h.read) j.is)
