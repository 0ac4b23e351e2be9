use Rattle.std.proofs.Common.{map}
use Rattle.std.proofs.lemmas.Result.{err_from_is_err_and}
use Rattle.alphabet.specs.Stored.{field_of}
use Rattle.syntax.specs.View.{shape}
use Rattle.values.specs.Tables.{table}
use Rattle.values.specs.View.{worth, values}
use Rattle.declarations.proofs.Fields.{field_added, worth_fails, set_fails, pushed_field, pushed_rising}
use Rattle.declarations.proofs.sigma.push_field.Goals as goal

pub returns-in_err-worth-clause-fields : goal.returns-in_err-worth-clause-fields
returns-in_err-worth-clause-fields g c =
    let p = err_from_is_err_and c.from_residual.result c.from_residual.ensures.1 in
    rw (p.1, p.2) (worth_fails c.in_err-worth.field-0.0 (table c.args.known.now) (map field_of c.args.fields.now.items) (shape c.args.set.now) c.in_err-worth.ensures)

pub returns-in_err-values-clause-fields : goal.returns-in_err-values-clause-fields
returns-in_err-values-clause-fields g c =
    let p = err_from_is_err_and c.from_residual-in_err-values.result c.from_residual-in_err-values.ensures.1 in
    rw (p.1, p.2) (set_fails c.in_err-values.field-0.0 (table c.args.known.now) (map field_of c.args.fields.now.items) (shape c.args.set.now) (worth c.in_ok-worth.worth) c.in_ok-worth.ensures c.in_err-values.ensures)

pub returns-clause-fields : goal.returns-clause-fields
returns-clause-fields g c =
    field_added (table c.args.known.now) (map field_of c.args.fields.now.items) (map field_of c.push.new.self.items) (shape c.args.set.now) (worth c.in_ok-worth.worth) (values c.in_ok-values.values) c.in_ok-worth.ensures c.in_ok-values.ensures
    (pushed_field c.args.fields.now.items c.push.new.self.items c.in_ok-in_order.field-0 (values c.in_ok-values.values) c.in_ok-push.ensures.items c.in_ok-in_order.ensures.same)

pub returns-clause-rising : goal.returns-clause-rising
returns-clause-rising g c =
    pushed_rising c.args.fields.now.items c.push.new.self.items c.in_ok-in_order.field-0 (values c.in_ok-values.values) c.in_ok-push.ensures.items c.in_ok-in_order.ensures.same c.requires c.in_ok-in_order.ensures.rising
