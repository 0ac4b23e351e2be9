use Rattle.std.proofs.Common.{◌≡◌}
use Rattle.syntax.specs.Parsing.{syntaxes}
use Rattle.syntax.specs.View.{shapes}
use Rattle.declared_names.specs.Stored.{listed}
use Rattle.declared_names.specs.Steps.{steps}
use Rattle.declared_names.specs.Entering.{put_declaration}
use Rattle.declared_names.proofs.Loops.{from}
use Rattle.declared_names.proofs.entering.enter_declarations.Given as goal

abbrev pub invariant-loop-declaration : goal.invariant-loop-declaration
invariant-loop-declaration g l =
    from put_declaration l.declarations l.declaration-index (listed l.table.entries) ≡ steps put_declaration (listed l.fn.table.entries) (syntaxes (shapes l.declarations))
