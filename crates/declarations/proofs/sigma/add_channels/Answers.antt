use Rattle.std.proofs.Common.{map, refl, sym, ◌∙◌, arith}
use Rattle.std.proofs.lemmas.Result.{err_from_is_err_and}
use Rattle.alphabet.specs.Stored.{field_of}
use Rattle.syntax.specs.Grammar.{MoreSyntax, NoSyntax}
use Rattle.declarations.specs.Sigma.{with_names}
use Rattle.declarations.proofs.Entire.{all_named}
use Rattle.declarations.proofs.Parted.{first_named, others_named, end_named}
use Rattle.declarations.proofs.Turns.{more, fail}
use Rattle.declarations.proofs.sigma.add_channels.Goals as goal

pub loop-name-init : goal.loop-name-init
loop-name-init g c = (refl, c.requires)

pub add_channel_of-requires : goal.add_channel_of-requires
add_channel_of-requires g c =
    first_named c.loop-name.alphabet c.args.names.now c.loop-name.name-index (map field_of c.args.fields.now) c.loop-name.invariant.1 c.name-item.result (omega arith) c.name-item.is

pub returns-in_err-add_channel_of : goal.returns-in_err-add_channel_of
returns-in_err-add_channel_of g c =
    let p = err_from_is_err_and c.from_residual.result c.from_residual.ensures.1 in
    let fields = map field_of c.args.fields.now in
    rw (p.1, p.2) (fail (with_names fields) (λ cs t. with_names fields cs (MoreSyntax t NoSyntax)) (all_named fields) c.in_err-add_channel_of.field-0.0 c.args.names.now c.loop-name.name-index c.name-item.result c.loop-name.alphabet _ c.loop-name.invariant.0 (omega arith) c.name-item.is c.in_err-add_channel_of.ensures)

pub loop-name-preserved : goal.loop-name-preserved
loop-name-preserved g c =
    let fields = map field_of c.args.fields.now in (
      more (with_names fields) (λ cs t. with_names fields cs (MoreSyntax t NoSyntax)) (all_named fields) c.args.names.now c.loop-name.name-index c.name-item.result c.loop-name.alphabet c.add_channel_of.new.alphabet _ c.loop-name.invariant.0 (omega arith) c.name-item.is c.in_ok-add_channel_of.ensures,
      others_named c.loop-name.alphabet c.args.names.now c.loop-name.name-index fields c.loop-name.invariant.1 c.name-item.result c.add_channel_of.new.alphabet (omega arith) c.name-item.is c.in_ok-add_channel_of.ensures,
    )

pub returns : goal.returns
returns g c = sym c.loop-name.invariant.0 ∙ end_named c.loop-name.alphabet c.args.names.now c.loop-name.name-index (map field_of c.args.fields.now) c.loop-name.invariant.1 (omega arith)
