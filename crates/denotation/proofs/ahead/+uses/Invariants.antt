use Rattle.std.proofs.Common.{◌≡◌, drop}
use Rattle.syntax.specs.Parsing.{syntaxes}
use Rattle.syntax.specs.View.{shapes}
use Rattle.denotation.specs.Ahead.{some_uses}
use Rattle.denotation.proofs.ahead.+uses.Given as goal

abbrev pub invariant-some_use-loop-tree : goal.invariant-some_use-loop-tree
invariant-some_use-loop-tree g l = some_uses (shapes l.generators) (syntaxes (shapes (drop l.tree-index l.trees))) ≡ some_uses (shapes l.generators) (syntaxes (shapes l.trees))
