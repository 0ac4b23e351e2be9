use Rattle.std.proofs.Common.{take}
use Rattle.spaces.specs.Acceptances.{HasApart}
use Rattle.spaces.proofs.offers.some_apart.Given as goal

abbrev pub invariant-loop-other : goal.invariant-loop-other
invariant-loop-other l = HasApart (take l.other-index l.sets) l.set → ⊥
