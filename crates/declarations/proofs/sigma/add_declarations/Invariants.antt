use Rattle.std.proofs.Common.{◌≡◌}
use Rattle.syntax.specs.Parsing.{syntaxes}
use Rattle.syntax.specs.View.{shapes}
use Rattle.values.specs.Names.{declared_by_all}
use Rattle.values.specs.Tables.{table}
use Rattle.declarations.specs.Sigma.{entered, Follows}
use Rattle.declarations.proofs.Turns.{left_from}
use Rattle.declarations.proofs.sigma.add_declarations.Given as goal

abbrev pub invariant-loop-declaration : goal.invariant-loop-declaration
invariant-loop-declaration g l =
    (entered (table l.known) l.alphabet (declared_by_all (left_from l.declarations l.declaration-index)) ≡ entered (table l.known) l.fn.alphabet (declared_by_all (syntaxes (shapes l.declarations))))
    × Follows (table l.known) l.alphabet (declared_by_all (left_from l.declarations l.declaration-index))
