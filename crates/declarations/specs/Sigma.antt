-- The channels of declarations, which are entered behind those of the declarations before. They are those that the names are declared as, if there are no more than 256 events.
use Rattle.std.specs.Prelude.{◌≡◌, List, [], ◌∷◌, ◌++◌, map, Bool, true, ◌&&◌, Option, Some, None, if◌then◌else◌, nat_lt}
use Rattle.std.specs.List.{list_all}
use Rattle.alphabet.specs.Channels.{Values, Channel, event_count, is_declared, is_rising}
use Rattle.alphabet.specs.Names.{is_name}
use Rattle.syntax.specs.Grammar.{Syntax, Syntaxes}
use Rattle.values.specs.Values.{◌>>=◌, Name}
use Rattle.values.specs.Worths.{Worth, Known, worth, the_set}
use Rattle.values.specs.Names.{Meaning, Entry, names_of, channel_entries, meaning, is_constant, are_distinct}
use Rattle.values.specs.Channels.{fields_of, channels_of}
use Rattle.declarations.specs.Passing.{pass}

-- the fields and one more
unfoldable pub add_field : Known → List Values → Syntax → Option (List Values)
add_field known fields t = worth known t >>= λ w. the_set w >>= λ vs. Some (fields ++ vs ∷ [])

-- the channels, if they have no more than 256 events
unfoldable pub small : List Channel → Option (List Channel)
small cs = if nat_lt 256 (event_count cs) then None else Some cs

-- one more channel, if none has its name and its events have room
unfoldable pub enter : List Channel → Channel → Option (List Channel)
enter cs c = if is_declared cs c.name then None else small (cs ++ c ∷ [])

-- the channels, and those of these names with these fields
unfoldable pub with_names : List Values → List Channel → Syntaxes → Option (List Channel)
with_names fields cs ts = names_of ts >>= λ ns. small (cs ++ map (λ n. record { name = n; fields = fields }) ns)

-- the channels, and those that these names are declared as
unfoldable pub with_entries : Known → List Channel → List Entry → Option (List Channel)
with_entries known cs es = channels_of known es >>= λ ds. small (cs ++ ds)

abbrev pub entered : Known → List Channel → Option (List Entry) → Option (List Channel)
entered known cs es = es >>= with_entries known cs

-- channels of these names, with these sets of fields
abbrev pub channels_named : Option (List Name) → Syntaxes → Option (List Entry)
channels_named names sets = names >>= λ ns. Some (channel_entries sets ns)

-- ---- what may be entered

-- a constant's name, which is a name of the language
abbrev pub is_declared_constant : List Entry → Name → Bool
is_declared_constant es n = is_constant (meaning es n) && is_name n

-- Names of the language, none twice; and what is known has constants among them only.
pub record AreDeclared (known : Known) (es : List Entry) : Type 0 where
  pub named : (n : Name) (m : Meaning) → meaning es n ≡ Some m → is_name n ≡ true
  pub once : are_distinct es ≡ true
  pub constants : (n : Name) (w : Worth) → known n ≡ Some w → pass (is_declared_constant es) w ≡ true

-- The names stand among all names of a script, behind those whose channels these are.
pub record Follow (known : Known) (cs : List Channel) (es : List Entry) : Type 0 where
  pub front : List Entry
  pub rest : List Entry
  pub all : AreDeclared known (front ++ (es ++ rest))
  pub entered : with_entries known [] front ≡ Some cs

abbrev pub Follows : Known → List Channel → Option (List Entry) → Type 0
Follows known cs names = (es : List Entry) × (names ≡ Some es) × Follow known cs es

-- The same of channels with these names, whose fields were found.
pub record CanBeNamed (cs : List Channel) (ts : Syntaxes) (fields : List Values) : Type 0 where
  pub known : Known
  pub sets : Syntaxes
  pub found : fields_of known sets ≡ Some fields
  pub rising : list_all is_rising fields ≡ true
  pub follows : Follows known cs (channels_named (names_of ts) sets)
