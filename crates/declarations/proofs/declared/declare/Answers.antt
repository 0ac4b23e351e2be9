use Rattle.std.proofs.lemmas.Result.{err_from_is_err_and}
use Rattle.syntax.specs.View.{shape}
use Rattle.declarations.proofs.Whole.{entries_fail}
use Rattle.declarations.proofs.declared.declare.Goals as goal

pub returns-in_err-entries-clause-only : goal.returns-in_err-entries-clause-only
returns-in_err-entries-clause-only g c = λ es known cs d.
    let p = err_from_is_err_and c.from_residual.result c.from_residual.ensures.1 in
    rw (p.1, p.2) (entries_fail c.in_err-entries.field-0.0 (shape c.args.tree.now) es known cs _ d c.in_err-entries.ensures)
