use Rattle.std.proofs.Common.{◌≡◌, map}
use Rattle.alphabet.specs.Stored.{field_of}
use Rattle.syntax.specs.Parsing.{syntaxes}
use Rattle.syntax.specs.View.{shapes}
use Rattle.declarations.specs.Sigma.{with_names, CanBeNamed}
use Rattle.declarations.proofs.Turns.{left_from}
use Rattle.declarations.proofs.sigma.add_channels.Given as goal

abbrev pub invariant-loop-name : goal.invariant-loop-name
invariant-loop-name g l =
    (with_names (map field_of l.fields) l.alphabet (left_from l.names l.name-index) ≡ with_names (map field_of l.fields) l.fn.alphabet (syntaxes (shapes l.names)))
    × CanBeNamed l.alphabet (left_from l.names l.name-index) (map field_of l.fields)
