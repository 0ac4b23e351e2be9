use Rattle.std.proofs.Common.{arith}
use Rattle.std.proofs.lemmas.Result.{err_from_is_err_and}
use Rattle.declared_names.specs.Stored.{listed}
use Rattle.declared_names.specs.View.{role}
use Rattle.declared_names.specs.Entering.{put_name}
use Rattle.declared_names.proofs.Loops.{all_more, all_fail, all_end}
use Rattle.declared_names.proofs.entering.enter_names.Goals as goal

pub returns-in_err-enter_name : goal.returns-in_err-enter_name
returns-in_err-enter_name g c =
    let p = err_from_is_err_and c.from_residual.result c.from_residual.ensures.1 in
    rw (p.1, p.2) (all_fail (put_name (role c.args.sets)) c.in_err-enter_name.field-0.0 c.args.names.now c.loop-name.name-index c.name-item.result (listed c.loop-name.table.entries) _ c.loop-name.invariant (omega arith) c.name-item.is c.in_err-enter_name.ensures)

pub loop-name-preserved : goal.loop-name-preserved
loop-name-preserved g c =
    all_more (put_name (role c.args.sets)) c.args.names.now c.loop-name.name-index c.name-item.result (listed c.loop-name.table.entries) (listed c.enter_name.new.table.entries) _ c.loop-name.invariant (omega arith) c.name-item.is c.in_ok-enter_name.ensures

pub returns : goal.returns
returns g c = all_end (put_name (role c.args.sets)) c.args.names.now c.loop-name.name-index (listed c.loop-name.table.entries) _ c.loop-name.invariant (omega arith)
