use Rattle.std.specs.Prelude.{◌≡◌, ◌≤◌, ◌+◌, ◌++◌, length, map, vec_capacity}
use Rattle.std.specs.Vec.Iter.{into_iter_items, into_iter_len}
use Rattle.connections.specs.Outcomes.{ending_of, places_of}
use Rattle.connections.proofs.outcome.part.Given as goal

abbrev pub invariant-loop-outcome : goal.invariant-loop-outcome
invariant-loop-outcome g l = (l.yielded ++ into_iter_items l.outcome-iterator ≡ into_iter_items l.initial.outcome-iterator)
    × (into_iter_len l.outcome-iterator ≡ length (into_iter_items l.outcome-iterator))
    × (l.places.items ≡ l.initial.places.items ++ places_of l.yielded)
    × (l.endings.items ≡ l.initial.endings.items ++ map ending_of l.yielded)
    × (length l.places.items + into_iter_len l.outcome-iterator ≤ vec_capacity l.places)
    × (length l.endings.items + into_iter_len l.outcome-iterator ≤ vec_capacity l.endings)
