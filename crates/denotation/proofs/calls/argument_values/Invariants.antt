use Rattle.std.proofs.Common.{◌≡◌, map, drop}
use Rattle.syntax.specs.View.{shapes}
use Rattle.values.specs.Tables.{input}
use Rattle.event_phrases.specs.Scopes.{within}
use Rattle.event_phrases.specs.View.{listed}
use Rattle.denotation.proofs.Arguments.{after, arguments_of}
use Rattle.denotation.proofs.calls.argument_values.Given as goal

abbrev pub invariant-loop-phrase : goal.invariant-loop-phrase
invariant-loop-phrase g l =
    let known = (within (g.G.GlobalScope.scope l.scope.global.now) (map input l.scope.inputs.items)).known in
    after (listed l.found.items) (arguments_of known (shapes (drop l.phrase-index l.phrases))) ≡ arguments_of known (shapes l.phrases)
