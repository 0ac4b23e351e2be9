use Rattle.std.proofs.Common.{◌≡◌, map, filter}
use Rattle.std.specs.List.{range_with_len, flat_map}
use Rattle.event_phrases.specs.Events.{is_pair_of}
use Rattle.event_phrases.proofs.pairs.ordered.Given as goal

abbrev pub invariant-loop-event : goal.invariant-loop-event
invariant-loop-event g l = l.ordered.items ≡ flat_map (λ a. map (λ b. (a, b)) (filter (is_pair_of l.pairs a) (range_with_len 0 l.count))) (range_with_len 0 l.event)
