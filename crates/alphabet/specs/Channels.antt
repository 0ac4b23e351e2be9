-- Channels with fields, and the events that they mean.
use Rattle.std.specs.Prelude.{◌≡◌, ℕ, ◌+◌, ◌<◌, ◌≤◌, ℤ, pos, negsuc, int_lt, ◌^◌, nat_lt, Bool, true, false, not, ◌&&◌, List, [], ◌∷◌, ◌++◌, map, length, nat_eq, slice_index_or}
use Rattle.std.specs.List.{flat_map, list_any, list_all}
use Rattle.std.specs.Fmt.{signed_decimal}
use Rattle.std.specs.Ordering.{nat_cmp, is_lt}
use Rattle.std.specs.Cmp.Lexicographic.{pointwise, slice_cmp}
use Rattle.alphabet.specs.Events.{Event, tick, ev}
use Rattle.alphabet.specs.Names.{is_name, tick_name}

-- a value of a field: a number, or a constant by its name
pub data FieldValue : Type 0 where
  number : ℤ → FieldValue
  constant : List ℕ → FieldValue

abbrev pub Values : Type 0
Values = List FieldValue

-- a channel, with a list of values for each field
pub record Channel : Type 0 where
  pub name : List ℕ
  pub fields : List Values

-- what an event is made of: its channel's name, and a value for each field
pub record Parts : Type 0 where
  pub channel : List ℕ
  pub values : Values

abbrev pub value_text : FieldValue → List ℕ
value_text (number z) = signed_decimal z
value_text (constant name) = name

-- the values, a dot (46) before each
abbrev pub dotted : Values → List ℕ
dotted [] = []
dotted (v ∷ vs) = (46 ∷ value_text v) ++ dotted vs

-- an event's text: the channel's name and the values, joined by dots
abbrev pub event_text : Parts → List ℕ
event_text p = p.channel ++ dotted p.values

-- one value of each field in all ways, place by place in the fields' order
abbrev pub choices : List Values → List Values
choices [] = [] ∷ []
choices (field ∷ fields) = flat_map (λ v. map (λ vs. v ∷ vs) (choices fields)) field

abbrev pub channel_events : Channel → List Parts
channel_events c = map (λ vs. record { channel = c.name; values = vs }) (choices c.fields)

-- the events of all channels in alphabet order: channels as declared, then by their fields
abbrev pub events : List Channel → List Parts
events cs = flat_map channel_events cs

-- their names
unfoldable pub names : List Channel → List (List ℕ)
names cs = map event_text (events cs)

-- how many events there are
abbrev pub event_count : List Channel → ℕ
event_count cs = length (names cs)

-- tick, or an event whose number the alphabet has
abbrev pub IsEvent : List Channel → Event → Type 0
IsEvent cs tick = Unit {0}
IsEvent cs (ev k) = k < event_count cs

-- the name of tick, or of an event whose number the alphabet has
abbrev pub name_of : List Channel → Event → List ℕ
name_of cs tick = tick_name
name_of cs (ev k) = slice_index_or (names cs) k []

-- places count from 1, with tick after the last event
abbrev pub place_of : List Channel → Event → ℕ
place_of cs tick = event_count cs + 1
place_of cs (ev k) = k + 1

-- numbers by size, then constants by the bytes of their names
abbrev pub is_below : FieldValue → FieldValue → Bool
is_below (number y) (number z) = int_lt y z
is_below (number y) (constant n) = true
is_below (constant m) (number z) = false
is_below (constant m) (constant n) = is_lt (slice_cmp nat_cmp m n)

-- each value is below all after it, so none stands twice
abbrev pub is_rising : Values → Bool
is_rising [] = true
is_rising (v ∷ vs) = list_all (λ w. is_below v w) vs && is_rising vs

abbrev pub is_value : FieldValue → Bool
is_value (number z) = true
is_value (constant name) = is_name name

-- a field's values: constants by names of the language, in order and none twice
abbrev pub is_field : Values → Bool
is_field vs = list_all is_value vs && is_rising vs

abbrev pub is_declared : List Channel → List ℕ → Bool
is_declared cs name = list_any (λ c. pointwise nat_eq name c.name) cs

abbrev pub is_apart_from : List Channel → FieldValue → Bool
is_apart_from cs (number z) = true
is_apart_from cs (constant name) = not (is_declared cs name)

-- no constant of a field is a channel's name
abbrev pub are_apart : List Channel → Bool
are_apart cs = list_all (λ c. list_all (list_all (is_apart_from cs)) c.fields) cs

-- the numbers of 64 bits with a sign, as every number in memory is
abbrev pub is_in_range : FieldValue → Bool
is_in_range (number (pos n)) = nat_lt n (2 ^ 63)
is_in_range (number (negsuc n)) = nat_lt n (2 ^ 63)
is_in_range (constant name) = true

-- no channel has the name of one after it
abbrev pub are_distinct : List Channel → Bool
are_distinct [] = true
are_distinct (c ∷ cs) = not (is_declared cs c.name) && are_distinct cs

-- what every alphabet keeps
pub record IsAlphabet (cs : List Channel) : Type 0 where
  pub named : list_all (λ c. is_name c.name) cs ≡ true
  pub distinct : are_distinct cs ≡ true
  pub fielded : list_all (λ c. list_all is_field c.fields) cs ≡ true
  pub ranged : list_all (λ c. list_all (list_all is_in_range) c.fields) cs ≡ true
  pub apart : are_apart cs ≡ true
  pub small : event_count cs ≤ 256
