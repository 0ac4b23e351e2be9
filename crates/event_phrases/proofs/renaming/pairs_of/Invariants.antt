use Rattle.std.proofs.Common.{◌≡◌, map}
use Rattle.syntax.specs.Parsing.{syntaxes}
use Rattle.syntax.specs.View.{shapes}
use Rattle.values.specs.Tables.{input}
use Rattle.event_phrases.specs.Uses.{behind_pairs}
use Rattle.event_phrases.specs.Scopes.{within}
use Rattle.event_phrases.specs.Events.{pairs_of}
use Rattle.event_phrases.proofs.Renamings.{others}
use Rattle.event_phrases.proofs.renaming.pairs_of.Given as goal

abbrev pub invariant-loop-tree : goal.invariant-loop-tree
invariant-loop-tree g l =
    let s = g.G.GlobalScope.scope l.scope.global.now in
    let known = (within s (map input l.scope.inputs.items)).known in
    behind_pairs l.pairs.items (others s.channels known l.trees l.tree-index) ≡ pairs_of s.channels known (syntaxes (shapes l.trees))
