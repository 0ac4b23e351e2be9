use Rattle.std.proofs.Common.{◌≡◌, map, true}
use Rattle.std.specs.List.{list_all}
use Rattle.alphabet.specs.Channels.{is_rising}
use Rattle.alphabet.specs.Stored.{field_of}
use Rattle.syntax.specs.Parsing.{syntaxes}
use Rattle.syntax.specs.View.{shapes}
use Rattle.values.specs.Channels.{fields_of}
use Rattle.values.specs.Tables.{table}
use Rattle.declarations.proofs.Fields.{with_fields}
use Rattle.declarations.proofs.Turns.{left_from}
use Rattle.declarations.proofs.sigma.fields_of.Given as goal

abbrev pub invariant-loop-set : goal.invariant-loop-set
invariant-loop-set g l =
    (with_fields (table l.known) (map field_of l.fields.items) (left_from l.sets l.set-index) ≡ fields_of (table l.known) (syntaxes (shapes l.sets)))
    × (list_all is_rising (map field_of l.fields.items) ≡ true)
