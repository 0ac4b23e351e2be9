use Rattle.std.proofs.Common.{take}
use Rattle.tau_closures.specs.Looks.{look}
use Rattle.spaces.specs.Offers.{AreOffers}
use Rattle.spaces.proofs.facts.offers_of.Given as goal

abbrev pub invariant-loop-number : goal.invariant-loop-number
invariant-loop-number g l = AreOffers l.offers.items (look l.all.table.processes (take l.number-index l.numbers))
