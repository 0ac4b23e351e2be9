use Rattle.std.proofs.Common.{◌≡◌, [], Some, map, take, drop}
use Rattle.syntax.specs.View.{shapes}
use Rattle.values.specs.Tables.{input}
use Rattle.event_phrases.specs.Scopes.{within}
use Rattle.denotation.specs.Walks.{first_scope, visits}
use Rattle.denotation.proofs.Unused.{NoneMet}
use Rattle.denotation.proofs.ahead.is_empty_ahead.Given as goal

abbrev pub invariant-loop-number : goal.invariant-loop-number
invariant-loop-number g l =
    let s = within (g.G.GlobalScope.scope l.scope.global.now) (map input l.scope.inputs.items) in
    NoneMet s (shapes (take l.number l.generators)) (shapes (drop l.number l.generators)) → first_scope (visits (shapes l.generators) s) ≡ Some []
