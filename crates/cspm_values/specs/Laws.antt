-- Laws of values.
use Rattle.std.specs.Prelude.{◌≡◌, List}
use Rattle.std.specs.Cmp.{IsTotalOrder}
use Rattle.std.specs.declared.cmp.Ordering.TheVariants.{Equal}
use Rattle.cspm_values.specs.Values.{Value, value_cmp, is_among}
use Rattle.cspm_values.specs.Made.{set_of}

-- a total order, by which two values are equal only where they are the same
pub record ValuesInOrder : Type 0 where
  pub total : IsTotalOrder value_cmp
  pub exact : (v w : Value) → value_cmp v w ≡ Equal → v ≡ w

-- lists with the same members make the same set
abbrev pub SetsOfTheSame : Type 0
SetsOfTheSame = (vs ws : List Value) → ((v : Value) → is_among v vs ≡ is_among v ws) → set_of vs ≡ set_of ws
