use Rattle.std.proofs.Common.{◌≡◌, map, take}
use Rattle.values.specs.View.{worth}
use Rattle.values.proofs.Lists.{constant_worth}
use Rattle.values.proofs.worth.constant_set.Given as goal

abbrev pub invariant-loop-name : goal.invariant-loop-name
invariant-loop-name g l = map worth l.worths.items ≡ map constant_worth (take l.name-index l.names)
