use Rattle.std.proofs.Common.{◌≡◌, [], Some, sym, ap, subst, ◌∙◌}
use Rattle.std.proofs.lemmas.Result.{err_from_is_err_and}
use Rattle.syntax.specs.Parsing.{syntaxes}
use Rattle.syntax.specs.View.{shape, shapes}
use Rattle.values.specs.View.{Fails, Gives}
use Rattle.declared_names.specs.Stored.{listed}
use Rattle.declared_names.specs.View.{entries}
use Rattle.declared_names.specs.Steps.{steps}
use Rattle.declared_names.specs.Entering.{put_declaration}
use Rattle.declared_names.proofs.Scripts.{put_parts, parts_none}
use Rattle.declared_names.proofs.entering.distinct_entries.Goals as goal

pub returns-in_err-declarations : goal.returns-in_err-declarations
returns-in_err-declarations g c =
    let p = err_from_is_err_and c.from_residual.result c.from_residual.ensures.1 in
    rw (p.1, p.2) (parts_none c.in_err-declarations.field-0.0 (shape c.args.tree.now) c.in_err-declarations.ensures)

pub returns-in_err-enter_declarations : goal.returns-in_err-enter_declarations
returns-in_err-enter_declarations g c =
    let p = err_from_is_err_and c.from_residual-in_err-enter_declarations.result c.from_residual-in_err-enter_declarations.ensures.1 in
    let empty : listed c.new-table.result.entries ≡ [] = ap listed c.new-table.ensures.empty in
    rw (p.1, p.2) (rw (← put_parts (shape c.args.tree.now) (syntaxes (shapes c.in_ok-declarations.declarations.now)) c.in_ok-declarations.ensures)
    (subst (λ es. Fails c.in_err-enter_declarations.field-0.0 (steps put_declaration es (syntaxes (shapes c.in_ok-declarations.declarations.now)))) empty c.in_err-enter_declarations.ensures))

pub returns : goal.returns
returns g c =
    let empty : listed c.new-table.result.entries ≡ [] = ap listed c.new-table.ensures.empty in
    let whole = put_parts (shape c.args.tree.now) (syntaxes (shapes c.in_ok-declarations.declarations.now)) c.in_ok-declarations.ensures in
    let all : steps put_declaration [] (syntaxes (shapes c.in_ok-declarations.declarations.now)) ≡ Some (listed c.enter_declarations.new.table.entries)
    = subst (λ es. steps put_declaration es (syntaxes (shapes c.in_ok-declarations.declarations.now)) ≡ Some (listed c.enter_declarations.new.table.entries)) empty c.in_ok-enter_declarations.ensures in
    subst (Gives entries c.complete.result) (sym all ∙ whole) c.complete.ensures
