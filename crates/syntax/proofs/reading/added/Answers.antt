use Rattle.tokens.specs.Lexeme.{lexemes}
use Rattle.syntax.specs.View.{shape, shapes}
use Rattle.syntax.proofs.Branches.{added_fails}
use Rattle.syntax.proofs.reading.added.Goals as goal

pub returns-in-Err-clause-read : goal.returns-in-Err-clause-read
returns-in-Err-clause-read g c = λ wanted h. added_fails (λ x. (shape x.0.tree, lexemes x.1.now)) c.args.found c.in-Err.read_error wanted (shapes c.args.parts.trees.items) c.in-Err.is h
