use Rattle.std.proofs.Common.{◌≡◌, take}
use Rattle.shown.specs.Tallies.{tallied}
use Rattle.shown.proofs.tally.number_of.Given as goal

abbrev pub invariant-loop-index : goal.invariant-loop-index
invariant-loop-index l = l.number ≡ tallied (take l.index l.digits) l.event
