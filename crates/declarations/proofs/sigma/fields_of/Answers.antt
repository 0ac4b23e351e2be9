use Rattle.std.proofs.Common.{map, arith}
use Rattle.std.proofs.lemmas.Result.{err_from_is_err_and}
use Rattle.alphabet.specs.Stored.{field_of}
use Rattle.values.specs.Tables.{table}
use Rattle.declarations.specs.Sigma.{add_field}
use Rattle.declarations.proofs.Fields.{with_fields, one_field, all_end}
use Rattle.declarations.proofs.Turns.{more, fail}
use Rattle.declarations.proofs.sigma.fields_of.Goals as goal

pub returns-in_err-push_field-clause-fields : goal.returns-in_err-push_field-clause-fields
returns-in_err-push_field-clause-fields g c =
    let p = err_from_is_err_and c.from_residual.result c.from_residual.ensures.1 in
    let known = table c.args.known.now in
    rw (p.1, p.2) (fail (with_fields known) (add_field known) (one_field known) c.in_err-push_field.field-0.0 c.args.sets.now c.loop-set.set-index c.set-item.result (map field_of c.loop-set.fields.items) _ c.loop-set.invariant.0 (omega arith) c.set-item.is c.in_err-push_field.ensures.fields)

pub loop-set-preserved : goal.loop-set-preserved
loop-set-preserved g c =
    let known = table c.args.known.now in (
      more (with_fields known) (add_field known) (one_field known) c.args.sets.now c.loop-set.set-index c.set-item.result (map field_of c.loop-set.fields.items) (map field_of c.push_field.new.fields.items) _ c.loop-set.invariant.0 (omega arith) c.set-item.is c.in_ok-push_field.ensures.fields,
      c.in_ok-push_field.ensures.rising,
    )

pub returns-clause-fields : goal.returns-clause-fields
returns-clause-fields g c = all_end (table c.args.known.now) c.args.sets.now c.loop-set.set-index (map field_of c.loop-set.fields.items) _ c.loop-set.invariant.0 (omega arith)
