use Rattle.std.proofs.Common.{◌≡◌, length}
use Rattle.values.specs.Values.{union}
use Rattle.values.specs.View.{values}
use Rattle.values.proofs.sets.union.Given as goal

abbrev pub invariant-loop-value : goal.invariant-loop-value
invariant-loop-value g l = union (values l.all) (values l.more) ≡ union (values l.fn.first) (values l.fn.second)

abbrev pub decreases-loop-value : goal.decreases-loop-value
decreases-loop-value g l = length l.more.keys
