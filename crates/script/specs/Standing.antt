-- How what names of sets of events mean is found: one name after the other, until no definition says more.
use Rattle.std.specs.Prelude.{◌≡◌, ℕ, List, Option, Some}
use Rattle.std.specs.Option.{option_map}
use Rattle.alphabet.specs.Channels.{Channel}
use Rattle.alphabet.specs.EventSets.{Set, has}
use Rattle.values.specs.Values.{◌>>=◌, Name}
use Rattle.values.specs.Worths.{Known}
use Rattle.values.specs.Names.{Entry, meaning}
use Rattle.event_phrases.specs.Events.{Events, KnownEvents, events_of, events_in, set_of}

-- which set a name means
abbrev pub KnownSets : Type 0
KnownSets = Name → Option Set

-- the same as sets of numbers of events
abbrev pub events_by : KnownSets → KnownEvents
events_by f n = option_map has (f n)

-- what definitions say where this is known
unfoldable pub next_events : List Channel → Known → List Entry → KnownEvents → KnownEvents
next_events cs known es f n = meaning es n >>= events_of cs known f

-- each means the events that it means after some number of steps
abbrev pub AreReached : List Channel → Known → List Entry → KnownSets → Type 0
AreReached cs known es f = (n : Name) (S : Set) → f n ≡ Some S → (k : ℕ) × (A : Events) × (events_in cs known es k n ≡ Some A) × (S ≡ set_of cs A)

-- the definition of this name says no more than these sets do
abbrev pub IsSettled : List Channel → Known → List Entry → KnownSets → Name → Type 0
IsSettled cs known es f n = (A : Events) → next_events cs known es (events_by f) n ≡ Some A → f n ≡ Some (set_of cs A)
