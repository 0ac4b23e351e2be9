use Rattle.std.proofs.Common.{take}
use Rattle.alphabet.specs.EventSets.{Set}
use Rattle.term.specs.Traces.{In}
use Rattle.spaces.specs.Acceptances.{ComesBefore}
use Rattle.spaces.specs.Offers.{AreSmall, IsSmall}
use Rattle.spaces.proofs.offers.place_of.Given as goal

abbrev pub invariant-loop-place : goal.invariant-loop-place
invariant-loop-place l = IsSmall l.set → AreSmall l.sets → (M : Set) → In M (take l.place l.sets) → ComesBefore M l.set
