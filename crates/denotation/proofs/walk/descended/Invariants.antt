use Rattle.std.proofs.Common.{◌≡◌, length}
use Rattle.denotation.specs.Places.{from_place}
use Rattle.denotation.specs.Walks.{first_scope}
use Rattle.denotation.proofs.walk.descended.Given as goal

abbrev pub invariant-loop-tree : goal.invariant-loop-tree
invariant-loop-tree g l =
    let s = g.G.GlobalScope.scope l.scope.global.now in
    first_scope (from_place s l.at) ≡ first_scope (from_place s l.fn.place)

abbrev pub decreases-loop-tree : goal.decreases-loop-tree
decreases-loop-tree g l = length (from_place (g.G.GlobalScope.scope l.scope.global.now) l.at)
