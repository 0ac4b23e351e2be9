use Rattle.std.proofs.Common.{subst}
use Rattle.std.proofs.lemmas.Result.{err_from_is_err_and}
use Rattle.syntax.specs.Parsing.{syntaxes}
use Rattle.syntax.specs.View.{shape, shapes}
use Rattle.values.specs.Tables.{table}
use Rattle.declarations.specs.Sigma.{channels_named, Follows}
use Rattle.declarations.proofs.Parted.{names_in_list, no_list}
use Rattle.declarations.proofs.sigma.add_list.Goals as goal

pub returns-in_err-names : goal.returns-in_err-names
returns-in_err-names g c =
    let p = err_from_is_err_and c.from_residual.result c.from_residual.ensures.1 in
    rw (p.1, p.2) (no_list c.in_err-names.field-0.0 (table c.args.known.now) c.args.alphabet.now (shape c.args.names.now) (syntaxes (shapes c.args.sets.now)) c.in_err-names.ensures)

pub add_names-requires : goal.add_names-requires
add_names-requires g c =
    subst (λ o. Follows (table c.args.known.now) c.args.alphabet.now (channels_named o (syntaxes (shapes c.args.sets.now)))) (names_in_list (shape c.args.names.now) (syntaxes (shapes c.in_ok-names.names.now)) c.in_ok-names.ensures) c.requires

pub returns : goal.returns
returns g c = rw (names_in_list (shape c.args.names.now) (syntaxes (shapes c.in_ok-names.names.now)) c.in_ok-names.ensures) c.add_names.ensures
