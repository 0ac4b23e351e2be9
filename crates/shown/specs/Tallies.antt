-- Counts of all events at once, as binary digits.
use Rattle.std.specs.Prelude.{ℕ, ◌+◌, ◌*◌, cond, List, [], ◌∷◌}
use Rattle.alphabet.specs.declared.events.Event.{Event}
use Rattle.alphabet.specs.EventSets.{Set, member}

-- the count of an event: its digits, from the lowest on, are whether it is in each of the sets
abbrev pub tallied : List Set → Event → ℕ
tallied [] x = 0
tallied (X ∷ Xs) x = cond (member X x) 1 0 + 2 * tallied Xs x
