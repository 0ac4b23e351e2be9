use Rattle.std.proofs.Common.{◌≡◌, [], map}
use Rattle.syntax.specs.Parsing.{syntaxes}
use Rattle.syntax.specs.View.{shapes}
use Rattle.declared_names.specs.Steps.{steps}
use Rattle.declared_names.specs.Entering.{add_name}
use Rattle.declared_names.proofs.Loops.{from}
use Rattle.declared_names.proofs.entering.names_in.Given as goal

abbrev pub invariant-loop-part : goal.invariant-loop-part
invariant-loop-part g l =
    from add_name l.parts l.part-index (map (λ n. n.items) l.names.items) ≡ steps add_name [] (syntaxes (shapes l.parts))
