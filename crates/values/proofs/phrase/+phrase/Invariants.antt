use Rattle.std.proofs.Common.{◌≡◌, map, drop}
use Rattle.syntax.specs.Parsing.{syntaxes}
use Rattle.syntax.specs.View.{shapes}
use Rattle.values.specs.Worths.{worths}
use Rattle.values.specs.View.{worth}
use Rattle.values.specs.Tables.{table, input, behind}
use Rattle.values.proofs.Parts.{with_front}
use Rattle.values.proofs.phrase.+phrase.Given as goal

abbrev pub invariant-each_stands_for-loop-tree : goal.invariant-each_stands_for-loop-tree
invariant-each_stands_for-loop-tree g l =
    with_front (map worth l.worths.items) (worths (behind (table l.known) (map input l.inputs)) (syntaxes (shapes (drop l.tree-index l.trees))))
    ≡ worths (behind (table l.known) (map input l.inputs)) (syntaxes (shapes l.trees))
