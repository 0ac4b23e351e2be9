use Rattle.std.proofs.Common.{Bool, ap}
use Rattle.std.proofs.lemmas.Result.{err_from_is_err_and}
use Rattle.tokens.specs.Lexeme.{lexemes}
use Rattle.syntax.specs.Parsing.{after}
use Rattle.syntax.specs.View.{shapes}
use Rattle.syntax.proofs.Branches.{kept, kept_fails, kept_reads}
use Rattle.syntax.proofs.Failing.{fails_none}
use Rattle.syntax.proofs.reading.kept.Goals as goal

pub returns-in_err-rest-clause-read : goal.returns-in_err-rest-clause-read
returns-in_err-rest-clause-read g c =
    let p = err_from_is_err_and c.from_residual.result c.from_residual.ensures.1 in
    rw (p.1, p.2) (kept_fails c.in_err-rest.field-0.0 c.args.may _ (shapes c.args.parts.trees.items) c.in_err-rest.ensures)

pub returns-then-may-clause-read : goal.returns-then-may-clause-read
returns-then-may-clause-read g c = kept_reads c.args.may _ (shapes c.args.parts.trees.items) (lexemes c.in_ok-rest.rest.now) c.if-may.true c.in_ok-rest.ensures

pub returns-else-may-clause-read : goal.returns-else-may-clause-read
returns-else-may-clause-read g c =
    fails_none c.too_deep.result _ (ap (λ (b : Bool). kept b (shapes c.args.parts.trees.items) (after c.args.sign (lexemes c.args.tokens.now))) c.if-may.false)
