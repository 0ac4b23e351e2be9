-- Where phrases stand.
use Rattle.std.specs.Prelude.{List, Option, Some, None, if◌then◌else◌}
use Rattle.alphabet.specs.Channels.{FieldValue, Values, Channel}
use Rattle.syntax.specs.Grammar.{Syntax}
use Rattle.values.specs.Values.{◌>>=◌, Name}
use Rattle.values.specs.Worths.{one, Known, worth, the_value, the_set}
use Rattle.values.specs.Tables.{behind}
use Rattle.values.specs.Names.{Entry, is_constant, meaning, same_name}
use Rattle.event_phrases.specs.Events.{Events, KnownEvents, event_set}
use Rattle.event_phrases.specs.Forms.{set_phrase_of}

-- What is known of a script's names where a phrase stands.
pub record Scope : Type 0 where
  pub entries : List Entry
  pub channels : List Channel
  -- what names mean: also the inputs before the phrase
  pub known : Known
  pub sets : KnownEvents

-- the name of an input means a value
abbrev pub with_input : Scope → Name → FieldValue → Scope
with_input s x v = record s { known = λ n. if same_name n x then Some (one v) else s.known n }

-- after these inputs
abbrev pub within : Scope → List (Name × FieldValue) → Scope
within s is = record s { known = behind s.known is }

-- a name may be an input's unless it is a constant's
abbrev pub unless_constant : {X : Type 0} → Scope → Name → Option X → Option X
unless_constant s x y = if is_constant (meaning s.entries x) then None else y

-- the set of events that a phrase means
abbrev pub events_by : Scope → Syntax → Option Events
events_by s t = event_set s.channels s.known s.sets (set_phrase_of t)

-- the value that a phrase means
abbrev pub value_by : Scope → Syntax → Option FieldValue
value_by s t = worth s.known t >>= λ w. the_value w

-- the set of values that a phrase means
abbrev pub values_by : Scope → Syntax → Option Values
values_by s t = worth s.known t >>= λ w. the_set w
