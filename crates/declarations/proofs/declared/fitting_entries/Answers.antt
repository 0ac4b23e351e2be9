use Rattle.std.proofs.Common.{sym, subst, ◌∙◌}
use Rattle.std.proofs.lemmas.Result.{err_from_is_err_and}
use Rattle.syntax.specs.View.{shape}
use Rattle.syntax.specs.Answers.{Fails}
use Rattle.declared_names.specs.View.{entries}
use Rattle.declared_names.specs.Entering.{distinct_entries}
use Rattle.syntax.proofs.Failing.{none_wanted}
use Rattle.declarations.proofs.Whole.{entries_found, other_fails}
use Rattle.declarations.proofs.declared.fitting_entries.Goals as goal

pub returns-in_ok-fitting-in-Ok : goal.returns-in_ok-fitting-in-Ok
returns-in_ok-fitting-in-Ok g c = sym (entries_found (shape c.args.tree.now) (entries c.in-Ok.entries) c.in-Ok.ensures) ∙ c.in_ok-fitting-in-Ok.ensures

pub returns-in_err-fitting-in-Ok : goal.returns-in_err-fitting-in-Ok
returns-in_err-fitting-in-Ok g c =
    let p = err_from_is_err_and c.from_residual.result c.from_residual.ensures.1 in
    rw (p.1, p.2) (subst (Fails c.in_err-fitting-in-Ok.field-0.0) (entries_found (shape c.args.tree.now) (entries c.in-Ok.entries) c.in-Ok.ensures) c.in_err-fitting-in-Ok.ensures)

pub returns-in-Err-Fault : goal.returns-in-Err-Fault
returns-in-Err-Fault g c =
    let t = shape c.args.tree.now in
    other_fails c.fault_of_names.result t (none_wanted c.in-Err-Fault.field-0 c.in-Err-Fault.field-0-0 (distinct_entries t) c.in-Err-Fault.field-0-is c.in-Err-Fault.ensures)
