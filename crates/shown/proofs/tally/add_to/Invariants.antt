use Rattle.std.proofs.Common.{◌≡◌, ◌+◌, ◌^◌, length, cond}
use Rattle.alphabet.specs.declared.events.Event.{Event}
use Rattle.alphabet.specs.EventSets.{member}
use Rattle.shown.specs.Tallies.{tallied}
use Rattle.shown.proofs.tally.add_to.Given as goal

abbrev pub invariant-loop-index : goal.invariant-loop-index
invariant-loop-index l = record {
  same : length l.digits ≡ length l.fn.digits;
  each : (x : Event) → tallied l.digits x + cond (member l.carry x) (2 ^ l.index) 0 ≡ tallied l.fn.digits x + cond (member l.fn.set x) 1 0;
}
