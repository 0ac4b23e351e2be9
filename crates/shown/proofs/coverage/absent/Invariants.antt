use Rattle.std.proofs.Common.{◌≡◌, ◌&&◌}
use Rattle.alphabet.specs.declared.events.Event.{Event}
use Rattle.alphabet.specs.EventSets.{member}
use Rattle.shown.specs.Coverage.{is_below}
use Rattle.shown.specs.Slots.{count_at, is_absent}
use Rattle.shown.specs.Tallies.{tallied}
use Rattle.shown.proofs.coverage.absent.Given as goal

abbrev pub invariant-loop-number : goal.invariant-loop-number
invariant-loop-number g l =
    (x : Event) → member l.set x ≡ (is_below l.number x && is_absent l.possible (count_at l.counts.accepted.items x) (tallied l.counts.possible x))
