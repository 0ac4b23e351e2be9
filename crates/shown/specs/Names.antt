-- How events and sets of events are written.
use Rattle.std.specs.Prelude.{ℕ, List, [], ◌∷◌, ◌++◌, map, codes}
use Rattle.std.specs.List.{flat_map}
use Rattle.alphabet.specs.declared.events.Event.{Event}
use Rattle.alphabet.specs.EventSets.{Set, members}
use Rattle.alphabet.specs.Channels.{Channel, name_of}
use Rattle.shown.specs.declared.options.Format.{Format}
use Rattle.shown.specs.declared.options.Format.TheVariants.{Text, Json}

-- what begins a set, stands between its events, and ends it
abbrev pub opening : Format → List ℕ
opening Text = codes "{"
opening Json = codes "["

abbrev pub between : Format → List ℕ
between Text = codes " "
between Json = codes ","

abbrev pub closing : Format → List ℕ
closing Text = codes "}"
closing Json = codes "]"

-- what stands before and after a name
abbrev pub quote : Format → List ℕ
quote Text = []
quote Json = codes "\""

-- what ends a line
abbrev pub ending : Format → List ℕ
ending Text = codes "\n"
ending Json = codes "}\n"

-- the texts with a text between each two
abbrev pub joined : List ℕ → List (List ℕ) → List ℕ
joined mark [] = []
joined mark (t ∷ ts) = t ++ flat_map (λ u. mark ++ u) ts

-- The name of an event, in JSON in quotes. Names hold letters, digits, `_`, `'`, `.` and `-` alone: they are `_tick`, or a name
-- of the language and then dots with numbers and names of the language (`event_text`, `is_name`). So nothing in them needs an escape.
abbrev pub name_text : Format → List Channel → Event → List ℕ
name_text format cs x = quote format ++ name_of cs x ++ quote format

-- the events of a set in alphabet order, tick last: {a b}, in JSON ["a","b"]
unfoldable pub set_text : Format → List Channel → Set → List ℕ
set_text format cs X = opening format ++ joined (between format) (map (name_text format cs) (members X)) ++ closing format

-- a blank and a name for each event of a set
abbrev pub names_text : List Channel → Set → List ℕ
names_text cs X = flat_map (λ x. codes " " ++ name_of cs x) (members X)
