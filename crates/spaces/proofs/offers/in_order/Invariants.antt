use Rattle.std.proofs.Common.{◌↔◌, take}
use Rattle.alphabet.specs.EventSets.{Set}
use Rattle.term.specs.Traces.{In}
use Rattle.spaces.specs.Acceptances.{AreOrdered}
use Rattle.spaces.specs.Offers.{AreSmall}
use Rattle.spaces.proofs.offers.in_order.Given as goal

abbrev pub invariant-loop-set : goal.invariant-loop-set
invariant-loop-set g l = record {
  same : (M : Set) → In M l.ordered.items ↔ In M (take l.set-index l.sets);
  ordered : AreSmall l.sets → AreOrdered l.ordered.items;
}
