use Rattle.std.proofs.Common.{◌≡◌, List, Option, Some, map, length, true, false, sym, ap, ◌∙◌}
use Rattle.std.proofs.lemmas.Bool.{eqb-true, eq-eqb}
use Rattle.std.proofs.lemmas.Result.{err_from_is_err_and}
use Rattle.alphabet.specs.Channels.{Values}
use Rattle.alphabet.specs.Stored.{field_of}
use Rattle.syntax.specs.Parsing.{syntaxes}
use Rattle.syntax.specs.View.{shapes}
use Rattle.values.specs.Tables.{table}
use Rattle.declarations.proofs.Entire.{found_named}
use Rattle.declarations.proofs.Parted.{names_none, names_fail, can_be_named}
use Rattle.declarations.proofs.sigma.add_names.Goals as goal

pub returns-then-is_empty : goal.returns-then-is_empty
returns-then-is_empty g c =
    names_none (table c.args.known.now) (syntaxes (shapes c.args.sets.now)) c.args.alphabet.now c.args.names.now (eqb-true (length c.args.names.now) 0 (sym c.is_empty.ensures ∙ c.if-is_empty.true)) c.requires

pub returns-in_err-fields : goal.returns-in_err-fields
returns-in_err-fields g c =
    let p = err_from_is_err_and c.from_residual.result c.from_residual.ensures.1 in
    rw (p.1, p.2) (
    names_fail c.in_err-fields.field-0.0 (table c.args.known.now) (syntaxes (shapes c.args.sets.now)) c.args.alphabet.now c.args.names.now
    (λ e. let x : true ≡ false = sym (eq-eqb (length c.args.names.now) 0 e) ∙ sym c.is_empty.ensures ∙ c.if-is_empty.false in cc) c.in_err-fields.ensures.fields
    )

pub add_channels-requires : goal.add_channels-requires
add_channels-requires g c =
    can_be_named (table c.args.known.now) c.args.alphabet.now (syntaxes (shapes c.args.sets.now)) (syntaxes (shapes c.args.names.now)) c.in_ok-fields.fields.items c.deref.result.now c.requires c.in_ok-fields.ensures.fields c.in_ok-fields.ensures.rising c.deref.ensures.value

pub returns : goal.returns
returns g c =
    rw (
    found_named (table c.args.known.now) (syntaxes (shapes c.args.sets.now)) (syntaxes (shapes c.args.names.now)) c.args.alphabet.now (map field_of c.deref.result.now)
    (c.in_ok-fields.ensures.fields ∙ ap (λ xs. let o : Option (List Values) = Some (map field_of xs) in o) (sym c.deref.ensures.value))
    ) c.add_channels.ensures
