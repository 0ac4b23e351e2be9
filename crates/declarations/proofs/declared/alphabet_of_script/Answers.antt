use Rattle.std.proofs.lemmas.Result.{err_from_is_err_and}
use Rattle.syntax.specs.Parsing.{syntaxes}
use Rattle.syntax.specs.View.{shape, shapes}
use Rattle.values.specs.Tables.{table}
use Rattle.declared_names.specs.View.{entries}
use Rattle.declarations.proofs.Whole.{parts_fail, all_follow, found_in, found_only}
use Rattle.declarations.proofs.declared.alphabet_of_script.Goals as goal

pub returns-in_err-declarations-clause-only : goal.returns-in_err-declarations-clause-only
returns-in_err-declarations-clause-only g c = λ es known cs d.
    let p = err_from_is_err_and c.from_residual.result c.from_residual.ensures.1 in
    rw (p.1, p.2) (parts_fail c.in_err-declarations.field-0.0 (shape c.args.tree.now) es known cs _ d c.in_err-declarations.ensures)

pub declared_alphabet-requires : goal.declared_alphabet-requires
declared_alphabet-requires g c =
    all_follow (shape c.args.tree.now) (syntaxes (shapes c.in_ok-declarations.declarations.now)) (entries c.args.entries.now) (table c.args.known.now) c.requires.named c.in_ok-declarations.ensures c.requires.entered c.requires.stands

pub returns-clause-found : goal.returns-clause-found
returns-clause-found g c =
    found_in (shape c.args.tree.now) (syntaxes (shapes c.in_ok-declarations.declarations.now)) (entries c.args.entries.now) (table c.args.known.now) c.declared_alphabet.result c.in_ok-declarations.ensures c.requires.entered c.requires.stands c.declared_alphabet.ensures

pub returns-clause-only : goal.returns-clause-only
returns-clause-only g c =
    found_only (shape c.args.tree.now) (syntaxes (shapes c.in_ok-declarations.declarations.now)) (entries c.args.entries.now) (table c.args.known.now) c.declared_alphabet.result c.in_ok-declarations.ensures c.requires.entered c.requires.stands c.declared_alphabet.ensures
