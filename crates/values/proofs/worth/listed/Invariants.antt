use Rattle.std.proofs.Common.{◌≡◌, map, length}
use Rattle.values.specs.Worths.{set_of_all}
use Rattle.values.specs.View.{values, worth}
use Rattle.values.proofs.Lists.{onto}
use Rattle.values.proofs.worth.listed.Given as goal

abbrev pub invariant-loop-worth : goal.invariant-loop-worth
invariant-loop-worth g l = onto (map worth l.worths.items) (values l.set) ≡ set_of_all (map worth l.fn.worths.items)

abbrev pub decreases-loop-worth : goal.decreases-loop-worth
decreases-loop-worth g l = length l.worths.items
