use Rattle.std.proofs.Common.{sym, ◌∙◌}
use Rattle.std.proofs.lemmas.Result.{err_from_is_err_and}
use Rattle.declared_names.specs.View.{entries}
use Rattle.declarations.proofs.Whole.{fit_same, unfit_fails}
use Rattle.declarations.proofs.declared.fitting.Goals as goal

pub returns-in_err-fit : goal.returns-in_err-fit
returns-in_err-fit g c =
    let p = err_from_is_err_and c.from_residual.result c.from_residual.ensures.1 in
    rw (p.1, p.2) tt

pub returns-then-fit : goal.returns-then-fit
returns-then-fit g c = fit_same (entries c.args.entries.now) (sym c.in_ok-fit.ensures ∙ c.if-fit.true)

pub returns-else-fit : goal.returns-else-fit
returns-else-fit g c = unfit_fails c.fault_of_names.result (entries c.args.entries.now) (sym c.in_ok-fit.ensures ∙ c.if-fit.false)
