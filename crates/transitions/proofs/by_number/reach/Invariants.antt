use Rattle.std.proofs.Common.{◌+◌, ◌-◌, length}
use Rattle.transitions.specs.Lists.{KeepsPlaces}
use Rattle.transitions.proofs.by_number.reach.Given as goal

abbrev pub invariant-loop-places : goal.invariant-loop-places
invariant-loop-places g l = KeepsPlaces l.initial.places.items l.places.items

abbrev pub decreases-loop-places : goal.decreases-loop-places
decreases-loop-places g l = l.number + 1 - length l.places.items
