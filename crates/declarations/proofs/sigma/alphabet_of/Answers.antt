use Rattle.std.proofs.Common.{sym, ap, subst, ◌∙◌}
use Rattle.syntax.specs.Parsing.{syntaxes}
use Rattle.syntax.specs.View.{shapes}
use Rattle.values.specs.Names.{declared_by_all}
use Rattle.values.specs.Tables.{table}
use Rattle.values.specs.View.{Fails}
use Rattle.declarations.specs.Sigma.{entered, Follows}
use Rattle.declarations.proofs.sigma.alphabet_of.Goals as goal

pub add_declarations-requires : goal.add_declarations-requires
add_declarations-requires g c =
    subst (λ cs. Follows (table c.args.known.now) cs (declared_by_all (syntaxes (shapes c.args.declarations.now)))) (sym c.new-alphabet.ensures) c.requires

pub returns-in-Ok : goal.returns-in-Ok
returns-in-Ok g c =
    ap (λ cs. entered (table c.args.known.now) cs (declared_by_all (syntaxes (shapes c.args.declarations.now)))) (sym c.new-alphabet.ensures) ∙ c.in-Ok.ensures

pub returns-in-Err : goal.returns-in-Err
returns-in-Err g c =
    subst (λ cs. Fails c.in-Err.error (entered (table c.args.known.now) cs (declared_by_all (syntaxes (shapes c.args.declarations.now))))) c.new-alphabet.ensures c.in-Err.ensures
