-- What an event is made of, and which place it has among the events of its channel.
use Rattle.std.specs.Prelude.{ℕ, List, Option, None, slice_get, option_and_then}
use Rattle.alphabet.specs.Events.{Event, tick, ev}
use Rattle.alphabet.specs.Channels.{FieldValue, Channel, Parts, channel_events, events}

-- what the event is made of, where the alphabet has it; tick is made of nothing
abbrev pub parts_of : List Channel → Event → Option Parts
parts_of cs tick = None
parts_of cs (ev k) = slice_get (events cs) k

-- what the event at place j of the channel with number i is made of; both count from 0
abbrev pub parts_at : List Channel → ℕ → ℕ → Option Parts
parts_at cs i j = option_and_then (λ c. slice_get (channel_events c) j) (slice_get cs i)

-- the value that the event has in this field, counted from 0
abbrev pub value_in : List Channel → Event → ℕ → Option FieldValue
value_in cs e field = option_and_then (λ p. slice_get p.values field) (parts_of cs e)
