use Rattle.std.proofs.Common.{◌≡◌}
use Rattle.syntax.specs.Parsing.{syntaxes}
use Rattle.syntax.specs.View.{shapes}
use Rattle.declared_names.specs.Stored.{listed}
use Rattle.declared_names.specs.View.{role}
use Rattle.declared_names.specs.Steps.{steps}
use Rattle.declared_names.specs.Entering.{put_name}
use Rattle.declared_names.proofs.Loops.{from}
use Rattle.declared_names.proofs.entering.enter_names.Given as goal

abbrev pub invariant-loop-name : goal.invariant-loop-name
invariant-loop-name g l =
    from (put_name (role l.sets)) l.names l.name-index (listed l.table.entries) ≡ steps (put_name (role l.sets)) (listed l.fn.table.entries) (syntaxes (shapes l.names))
