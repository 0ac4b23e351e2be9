use Rattle.std.proofs.Common.{refl, sym, ◌∙◌, arith}
use Rattle.std.proofs.lemmas.Result.{err_from_is_err_and}
use Rattle.values.specs.Names.{declared_by, declared_by_all}
use Rattle.values.specs.Tables.{table}
use Rattle.declarations.specs.Sigma.{entered}
use Rattle.declarations.proofs.Entire.{all_entered}
use Rattle.declarations.proofs.Parted.{first_declared, others_declared, end_declared}
use Rattle.declarations.proofs.Turns.{more, fail}
use Rattle.declarations.proofs.sigma.add_declarations.Goals as goal

pub loop-declaration-init : goal.loop-declaration-init
loop-declaration-init g c = (refl, c.requires)

pub add_declaration-requires : goal.add_declaration-requires
add_declaration-requires g c =
    first_declared (table c.args.known.now) c.loop-declaration.alphabet c.args.declarations.now c.loop-declaration.declaration-index c.loop-declaration.invariant.1 c.declaration-item.result (omega arith) c.declaration-item.is

pub returns-in_err-add_declaration : goal.returns-in_err-add_declaration
returns-in_err-add_declaration g c =
    let p = err_from_is_err_and c.from_residual.result c.from_residual.ensures.1 in
    let known = table c.args.known.now in
    rw (p.1, p.2) (fail (λ cs ts. entered known cs (declared_by_all ts)) (λ cs t. entered known cs (declared_by t)) (all_entered known) c.in_err-add_declaration.field-0.0 c.args.declarations.now c.loop-declaration.declaration-index c.declaration-item.result c.loop-declaration.alphabet _ c.loop-declaration.invariant.0 (omega arith) c.declaration-item.is c.in_err-add_declaration.ensures)

pub loop-declaration-preserved : goal.loop-declaration-preserved
loop-declaration-preserved g c =
    let known = table c.args.known.now in (
      more (λ cs ts. entered known cs (declared_by_all ts)) (λ cs t. entered known cs (declared_by t)) (all_entered known) c.args.declarations.now c.loop-declaration.declaration-index c.declaration-item.result c.loop-declaration.alphabet c.add_declaration.new.alphabet _ c.loop-declaration.invariant.0 (omega arith) c.declaration-item.is c.in_ok-add_declaration.ensures,
      others_declared known c.loop-declaration.alphabet c.args.declarations.now c.loop-declaration.declaration-index c.loop-declaration.invariant.1 c.declaration-item.result c.add_declaration.new.alphabet (omega arith) c.declaration-item.is c.in_ok-add_declaration.ensures,
    )

pub returns : goal.returns
returns g c = sym c.loop-declaration.invariant.0 ∙ end_declared (table c.args.known.now) c.loop-declaration.alphabet c.args.declarations.now c.loop-declaration.declaration-index c.loop-declaration.invariant.1 (omega arith)
