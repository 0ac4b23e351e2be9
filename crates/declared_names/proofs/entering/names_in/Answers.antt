use Rattle.std.proofs.Common.{map, arith}
use Rattle.std.proofs.lemmas.Result.{err_from_is_err_and}
use Rattle.declared_names.specs.Entering.{add_name}
use Rattle.declared_names.proofs.Loops.{all_more, all_fail, all_end}
use Rattle.declared_names.proofs.entering.names_in.Goals as goal

pub returns-in_err-push_name : goal.returns-in_err-push_name
returns-in_err-push_name g c =
    let p = err_from_is_err_and c.from_residual.result c.from_residual.ensures.1 in
    rw (p.1, p.2) (all_fail add_name c.in_err-push_name.field-0.0 c.args.parts.now c.loop-part.part-index c.part-item.result (map (λ n. n.items) c.loop-part.names.items) _ c.loop-part.invariant (omega arith) c.part-item.is c.in_err-push_name.ensures)

pub loop-part-preserved : goal.loop-part-preserved
loop-part-preserved g c =
    all_more add_name c.args.parts.now c.loop-part.part-index c.part-item.result (map (λ n. n.items) c.loop-part.names.items) (map (λ n. n.items) c.push_name.new.names.items) _ c.loop-part.invariant (omega arith) c.part-item.is c.in_ok-push_name.ensures

pub returns : goal.returns
returns g c = all_end add_name c.args.parts.now c.loop-part.part-index (map (λ n. n.items) c.loop-part.names.items) _ c.loop-part.invariant (omega arith)
