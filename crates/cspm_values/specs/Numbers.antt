-- What operators make of numbers.
use Rattle.std.specs.Prelude.{ℕ, zero, suc, List, [], ◌∷◌, if◌then◌else◌, ℤ, pos, negsuc, ◌+ℤ◌, neg_ℤ, int_lt, int_le}
use Rattle.std.specs.Int.{int_gap, int_div_euclid, int_rem_euclid}
use Rattle.cspm_values.specs.declared.stop.Limit.TheVariants as limits
use Rattle.cspm_values.specs.Answers.{Answer, gives, fault, beyond, ◌>>=◌}
use Rattle.cspm_values.specs.Values.{Value}
use Rattle.cspm_values.specs.Limits.{limited}
use Rattle.cspm_values.specs.Parts.{number_value}

-- ---- division, rounded down: y = z * quotient y z + remainder y z, where the remainder has the sign of z

unfoldable pub quotient : ℤ → ℤ → Answer ℤ
quotient y (pos zero) = fault
quotient y (pos (suc n)) = gives (int_div_euclid y (pos (suc n)))
quotient y (negsuc n) = gives (int_div_euclid (neg_ℤ y) (pos (suc n)))

unfoldable pub remainder : ℤ → ℤ → Answer ℤ
remainder y (pos zero) = fault
remainder y (pos (suc n)) = gives (int_rem_euclid y (pos (suc n)))
remainder y (negsuc n) = gives (neg_ℤ (int_rem_euclid (neg_ℤ y) (pos (suc n))))

-- the same of numbers within the limits
unfoldable pub divided : ℤ → ℤ → Answer ℤ
divided y z = limited y >>= λ a. limited z >>= λ b. quotient a b

unfoldable pub left_over : ℤ → ℤ → Answer ℤ
left_over y z = limited y >>= λ a. limited z >>= λ b. remainder a b

-- ---- ranges

-- so many numbers from z on
unfoldable pub numbers_from : ℤ → ℕ → List Value
numbers_from z zero = []
numbers_from z (suc n) = number_value z ∷ numbers_from (z +ℤ pos 1) n

-- the numbers from y to z, of which there are at most 65,536
unfoldable pub range : ℤ → ℤ → Answer (List Value)
range y z = if int_lt z y then gives [] else (if int_le z (y +ℤ pos 65535) then gives (numbers_from y (suc (int_gap y z))) else beyond limits.Members)
