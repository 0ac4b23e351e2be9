use Rattle.std.proofs.Common.{◌≡◌, ◌++◌, map, filter}
use Rattle.std.specs.List.{range_with_len}
use Rattle.alphabet.specs.EventSets.{has}
use Rattle.event_phrases.proofs.pairs.put_pairs.Given as goal

abbrev pub invariant-loop-number : goal.invariant-loop-number
invariant-loop-number g l = l.pairs.items ≡ l.fn.pairs.items ++ map (λ b. (l.event, b)) (filter (has l.set) (range_with_len 0 l.number))
