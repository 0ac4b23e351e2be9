use Rattle.std.proofs.Common.{arith}
use Rattle.std.proofs.lemmas.Result.{err_from_is_err_and}
use Rattle.declared_names.specs.Stored.{listed}
use Rattle.declared_names.specs.Entering.{put_declaration}
use Rattle.declared_names.proofs.Loops.{all_more, all_fail, all_end}
use Rattle.declared_names.proofs.entering.enter_declarations.Goals as goal

pub returns-in_err-enter_declaration : goal.returns-in_err-enter_declaration
returns-in_err-enter_declaration g c =
    let p = err_from_is_err_and c.from_residual.result c.from_residual.ensures.1 in
    rw (p.1, p.2) (all_fail put_declaration c.in_err-enter_declaration.field-0.0 c.args.declarations.now c.loop-declaration.declaration-index c.declaration-item.result (listed c.loop-declaration.table.entries) _ c.loop-declaration.invariant (omega arith) c.declaration-item.is c.in_err-enter_declaration.ensures)

pub loop-declaration-preserved : goal.loop-declaration-preserved
loop-declaration-preserved g c =
    all_more put_declaration c.args.declarations.now c.loop-declaration.declaration-index c.declaration-item.result (listed c.loop-declaration.table.entries) (listed c.enter_declaration.new.table.entries) _ c.loop-declaration.invariant (omega arith) c.declaration-item.is c.in_ok-enter_declaration.ensures

pub returns : goal.returns
returns g c = all_end put_declaration c.args.declarations.now c.loop-declaration.declaration-index (listed c.loop-declaration.table.entries) _ c.loop-declaration.invariant (omega arith)
