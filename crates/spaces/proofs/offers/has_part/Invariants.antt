use Rattle.std.proofs.Common.{take}
use Rattle.spaces.specs.Offers.{HasPart}
use Rattle.spaces.proofs.offers.has_part.Given as goal

abbrev pub invariant-loop-other : goal.invariant-loop-other
invariant-loop-other l = HasPart (take l.other-index l.sets) l.set → ⊥
