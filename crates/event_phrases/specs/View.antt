-- What is in memory as plain values.
use Rattle.std.specs.Prelude.{List, map}
use Rattle.alphabet.specs.Channels.{Values, Parts}
use Rattle.values.specs.View.{value}
use Rattle.values.specs.declared.value.Value.{Value}
use Rattle.event_phrases.specs.declared.row.Row.{Row}
use Rattle.event_phrases.specs.Events.{Beginning}

-- the values of a list
abbrev pub listed : {A : Type 0} → List (Value A) → Values
listed vs = map value vs

-- an event
abbrev pub row : {A : Type 0} → Row A → Parts
row r = record { channel = r.channel.items; values = listed r.values.items }

-- a channel and the first values of its events
abbrev pub beginning : {A : Type 0} → Row A → Beginning
beginning r = (r.channel.items, listed r.values.items)
