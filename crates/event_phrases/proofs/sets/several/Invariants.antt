use Rattle.std.proofs.Common.{◌≡◌, map}
use Rattle.syntax.specs.View.{shapes}
use Rattle.values.specs.Tables.{input}
use Rattle.event_phrases.specs.Events.{gives, masked, together}
use Rattle.event_phrases.specs.Forms.{event_of}
use Rattle.event_phrases.specs.Scopes.{within}
use Rattle.event_phrases.proofs.EventSetLaws.{with_set, others, Lies}
use Rattle.event_phrases.proofs.sets.several.Given as goal

abbrev pub invariant-loop-tree : goal.invariant-loop-tree
invariant-loop-tree g l =
    let s = g.G.GlobalScope.scope l.scope.global.now in
    let given_by = gives s.channels (within s (map input l.scope.inputs.items)).known l.extent in
    (with_set s.channels l.set (others s.channels given_by l.trees l.tree-index) ≡ masked s.channels (together given_by (map event_of (shapes l.trees)))) × Lies s.channels l.set
