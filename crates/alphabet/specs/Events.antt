-- Events of an alphabet, and termination.
use Rattle.std.specs.Prelude.{ℕ, Bool, true, false, nat_eq, nat_lt}
pub use Rattle.alphabet.specs.declared.events.Event.{Event}
pub use Rattle.alphabet.specs.declared.events.Event.TheVariants.{Tick as tick, Of as ev}

-- whether two events are one
abbrev pub is_event : Event → Event → Bool
is_event tick tick = true
is_event tick (ev b) = false
is_event (ev a) tick = false
is_event (ev a) (ev b) = nat_eq a b

-- whether this is an event, and its number is below n
abbrev pub is_numbered_below : ℕ → Event → Bool
is_numbered_below n tick = false
is_numbered_below n (ev a) = nat_lt a n
