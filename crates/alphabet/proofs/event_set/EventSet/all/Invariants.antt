use Rattle.std.proofs.Common.{◌≡◌}
use Rattle.alphabet.specs.Events.{Event, is_numbered_below}
use Rattle.alphabet.specs.EventSets.{member}
use Rattle.alphabet.proofs.event_set.EventSet.all.Given as goal

abbrev pub invariant-loop-number : goal.invariant-loop-number
invariant-loop-number g l = (x : Event) → member l.set x ≡ is_numbered_below l.number x
