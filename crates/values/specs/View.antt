-- Values in memory as plain values.
use Rattle.std.specs.Prelude.{map}
use Rattle.std.specs.BTreeSet.{BTreeSet}
use Rattle.alphabet.specs.Channels.{FieldValue, number, constant, Values}
use Rattle.values.specs.declared.value.Value.{Value}
use Rattle.values.specs.declared.value.Value.TheVariants as stored
use Rattle.values.specs.Worths.{Worth as Plain, one, many, truth}
use Rattle.values.specs.declared.worth.Worth.{Worth}
use Rattle.values.specs.declared.worth.Worth.TheVariants as worths
-- what a call fails with and gives
pub use Rattle.syntax.specs.Answers.{Fails, Gives}

-- the value
abbrev pub value : {A : Type 0} → Value A → FieldValue
value (stored.Number z) = number z
value (stored.Constant n) = constant n.items

-- the values of a set
abbrev pub values : {A : Type 0} → BTreeSet (Value A) → Values
values s = map value s.keys

-- what a phrase means
abbrev pub worth : {A : Type 0} → Worth A → Plain
worth (worths.One v) = one (value v)
worth (worths.Many s) = many (values s)
worth (worths.Truth b) = truth b
