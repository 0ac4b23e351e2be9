-- How large values may be.
use Rattle.std.specs.Prelude.{ℕ, zero, suc, List, Bool, true, false, ◌&&◌, if◌then◌else◌, nat_le, length, ℤ, pos, negsuc, int_le}
use Rattle.cspm_values.specs.declared.stop.Limit.TheVariants as limits
use Rattle.cspm_values.specs.Answers.{Answer, gives, beyond}
use Rattle.cspm_values.specs.Values.{Value, Values, value, none, more}

-- numbers are from -1,000,000 to 1,000,000
unfoldable pub limited : ℤ → Answer ℤ
limited z = if int_le (negsuc 999999) z && int_le z (pos 1000000) then gives z else beyond limits.Numbers

-- a set or a sequence has at most 65,536 members
unfoldable pub fitting : {X : Type 0} → List X → Answer (List X)
fitting vs = if nat_le (length vs) 65536 then gives vs else beyond limits.Members

unfoldable mutual
  -- at most so many values stand in one another, this one included
  pub is_within : ℕ → Value → Bool
  is_within zero (value h vs) = false
  is_within (suc k) (value h vs) = are_within k vs

  pub are_within : ℕ → Values → Bool
  are_within k none = true
  are_within k (more v vs) = if is_within k v then are_within k vs else false

-- at most 250 values stand in one another
unfoldable pub sized : Value → Answer Value
sized v = if is_within 250 v then gives v else beyond limits.Height
