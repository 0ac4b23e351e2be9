use Rattle.std.proofs.Common.{◌≡◌, ◌++◌, map}
use Rattle.std.specs.List.{flat_map, range_with_len}
use Rattle.alphabet.specs.declared.events.Event.TheVariants.{Of as ev}
use Rattle.shown.specs.Coverage.{count_text}
use Rattle.shown.specs.Slots.{count_at}
use Rattle.shown.specs.Tallies.{tallied}
use Rattle.shown.proofs.coverage.put_events.Given as goal

abbrev pub invariant-loop-number : goal.invariant-loop-number
invariant-loop-number g l =
    l.text.items ≡ l.fn.text.items
    ++ flat_map (λ x. count_text l.format l.alphabet x (count_at l.counts.accepted.items x) (count_at l.counts.rejected.items x) (tallied l.counts.possible x)) (map ev (range_with_len 0 l.number))
