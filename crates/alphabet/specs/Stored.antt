-- Channels in memory as plain values.
use Rattle.std.specs.Prelude.{ℕ, List, map}
use Rattle.std.specs.declared.vec.Vec.{Vec}
use Rattle.alphabet.specs.declared.field_value.Value.{Value}
use Rattle.alphabet.specs.declared.field_value.Value.TheVariants.{Number, Name}
use Rattle.alphabet.specs.Channels.{FieldValue, number, constant, Values, Channel}

abbrev pub value_of : {A : Type 0} → Value A → FieldValue
value_of (Number z) = number z
value_of (Name name) = constant name.items

abbrev pub field_of : {A : Type 0} → Vec (Value A) A → Values
field_of field = map value_of field.items

abbrev pub channel_of : {A : Type 0} → List ℕ → List (Vec (Value A) A) → Channel
channel_of name fields = record { name = name; fields = map field_of fields }
