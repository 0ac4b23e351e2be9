-- Which constants values have.
use Rattle.std.specs.Prelude.{Bool, true}
use Rattle.std.specs.List.{list_all}
use Rattle.alphabet.specs.Channels.{FieldValue, number, constant, Values}
use Rattle.values.specs.Values.{Name}
use Rattle.values.specs.Worths.{Worth, one, many, truth}

-- a number, or a constant whose name passes the test
abbrev pub passes : (Name → Bool) → FieldValue → Bool
passes p (number z) = true
passes p (constant n) = p n

abbrev pub all_pass : (Name → Bool) → Values → Bool
all_pass p vs = list_all (passes p) vs

-- all constants of what it means pass the test; a truth has none
abbrev pub pass : (Name → Bool) → Worth → Bool
pass p (one v) = passes p v
pass p (many vs) = all_pass p vs
pass p (truth b) = true
