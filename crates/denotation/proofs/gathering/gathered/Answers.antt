use Rattle.denotation.specs.Denotes.{root_key}
use Rattle.denotation.specs.View.{root as root_view}
use Rattle.std.proofs.lemmas.Result.{err_from_is_err_and}
use Rattle.denotation.proofs.gathering.gathered.Goals as goal

pub returns-in_err-met-clause-only : goal.returns-in_err-met-clause-only
returns-in_err-met-clause-only g c = λ ps d.
    let p = err_from_is_err_and c.from_residual.result c.from_residual.ensures.1 in
    rw (p.1, p.2) tt

pub returns-clause-found : goal.returns-clause-found
returns-clause-found g c = c.bodies.ensures.found (root_key (root_view c.args.root.now)) c.in_ok-met.ensures

pub returns-clause-only : goal.returns-clause-only
returns-clause-only g c = c.bodies.ensures.only (root_key (root_view c.args.root.now)) c.in_ok-met.ensures
