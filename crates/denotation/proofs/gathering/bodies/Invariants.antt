use Rattle.std.proofs.Common.{◌≡◌, ◌∷◌, map, []}
use Rattle.term.specs.Proc.{proc}
use Rattle.denotation.specs.Bodies.{Key}
use Rattle.denotation.specs.View.{key, root as root_view}
use Rattle.denotation.specs.Denotes.{body_under}
use Rattle.denotation.proofs.Progress.{Progress}
use Rattle.denotation.proofs.gathering.bodies.Given as goal

abbrev pub invariant-loop-alloc : goal.invariant-loop-alloc
invariant-loop-alloc g l = (root : Key) → map key l.fn.met.keys ≡ root ∷ [] → Progress (body_under (root_view l.root) (g.G.GlobalScope.scope l.global)) root (map proc l.terms.items) (map key l.met.keys) l.room

abbrev pub decreases-loop-alloc : goal.decreases-loop-alloc
decreases-loop-alloc g l = l.room
