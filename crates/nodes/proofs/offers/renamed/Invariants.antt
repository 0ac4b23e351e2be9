use Rattle.std.proofs.Common.{◌≡◌, ℕ, false, ◌&&◌, take}
use Rattle.alphabet.specs.EventSets.{has, member}
use Rattle.alphabet.specs.declared.events.Event.TheVariants.{Tick as tick}
use Rattle.term.specs.Traces.{partners}
use Rattle.targets.specs.Targets.{is_empty, origins}
use Rattle.targets.specs.Offers.{some_passes}
use Rattle.nodes.proofs.offers.renamed.Given as goal

abbrev pub invariant-loop-pair : goal.invariant-loop-pair
invariant-loop-pair l = record {
  found : (a : ℕ) → has l.found a ≡ some_passes (has l.from) (origins (take l.pair-index l.pairs) a);
  kept : (a : ℕ) → has l.kept a ≡ (has l.from a && is_empty (partners (take l.pair-index l.pairs) a));
  found_tick : member l.found tick ≡ false;
  kept_tick : member l.kept tick ≡ member l.from tick;
}
