-- The channels of a script with the values of their fields.
use Rattle.std.specs.Prelude.{◌≡◌, ◌≤◌, List, [], ◌∷◌, true, Option, Some}
use Rattle.std.specs.List.{list_all}
use Rattle.alphabet.specs.Channels.{Values, Channel, event_count}
use Rattle.syntax.specs.Grammar.{Syntax, Syntaxes, NoSyntax, MoreSyntax}
use Rattle.values.specs.Values.{◌>>=◌, Name}
use Rattle.values.specs.Worths.{Known, worth, the_set}
use Rattle.values.specs.Names.{Meaning, channel, datatype, constant_name, definition, parametric, Entry, declared, are_distinct, have_parameters, Stands}

-- the values of each field
unfoldable pub fields_of : Known → Syntaxes → Option (List Values)
fields_of known NoSyntax = Some []
fields_of known (MoreSyntax t ts) = worth known t >>= λ w. the_set w >>= λ vs. fields_of known ts >>= λ fields. Some (vs ∷ fields)

-- the channel of an entry in front of others
unfoldable pub with_channel : Known → Name → Meaning → List Channel → Option (List Channel)
with_channel known n (channel sets) cs = fields_of known sets >>= λ fields. Some (record { name = n; fields = fields } ∷ cs)
with_channel known n (datatype constants) cs = Some cs
with_channel known n constant_name cs = Some cs
with_channel known n (definition t) cs = Some cs
with_channel known n (parametric xs t) cs = Some cs

-- the channels in text order
unfoldable pub channels_of : Known → List Entry → Option (List Channel)
channels_of known [] = Some []
channels_of known (e ∷ es) = channels_of known es >>= with_channel known e.0 e.1

-- What a script declares: each name once, parameters that are in order, what the names mean, and channels with at most 256 events.
pub record Declares (t : Syntax) (entries : List Entry) (known : Known) (channels : List Channel) : Type 0 where
  pub named : declared t ≡ Some entries
  pub once : are_distinct entries ≡ true
  pub parameters : list_all (λ e. have_parameters entries e.1) entries ≡ true
  pub stands : Stands entries known
  pub fielded : channels_of known entries ≡ Some channels
  pub small : event_count channels ≤ 256
