-- The names of one channel's events.
use Rattle.std.specs.Prelude.{ℕ, List, map}
use Rattle.alphabet.specs.Channels.{Channel, channel_events, event_text}

abbrev pub own_names : Channel → List (List ℕ)
own_names c = map event_text (channel_events c)
