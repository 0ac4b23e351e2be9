use Rattle.std.proofs.Common.{◌≡◌, drop}
use Rattle.syntax.specs.Parsing.{syntaxes}
use Rattle.syntax.specs.View.{shapes}
use Rattle.event_phrases.specs.Uses.{mention}
use Rattle.event_phrases.proofs.uses.+mentioning.Given as goal

abbrev pub invariant-mention-loop-tree : goal.invariant-mention-loop-tree
invariant-mention-loop-tree g l = mention l.name (syntaxes (shapes (drop l.tree-index l.trees))) ≡ mention l.name (syntaxes (shapes l.trees))
