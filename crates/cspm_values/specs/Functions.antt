-- What operators and the functions of the language make of values.
use Rattle.std.specs.Prelude.{List, Bool, true, false, not, ◌&&◌, if◌then◌else◌, ℤ, pos, ◌+ℤ◌, ◌-ℤ◌, ◌*ℤ◌, int_le}
use Rattle.cspm_values.specs.declared.making.Kind.{Kind}
use Rattle.cspm_values.specs.declared.operator.Operator.{Operator}
use Rattle.cspm_values.specs.declared.operator.Operator.TheVariants as operators
use Rattle.cspm_values.specs.declared.function.Function.{Function}
use Rattle.cspm_values.specs.declared.function.Function.TheVariants as functions
use Rattle.cspm_values.specs.Answers.{Answer, gives, fault, wanted, ◌>>=◌}
use Rattle.cspm_values.specs.Values.{Value, value, number, set, listed, is_same}
use Rattle.cspm_values.specs.Limits.{limited}
use Rattle.cspm_values.specs.Parts.{one_of, two_of, the_number, the_truth, the_set, two_numbers, number_value, truth_value}
use Rattle.cspm_values.specs.Numbers.{divided, left_over, range}
use Rattle.cspm_values.specs.Made.{made}
use Rattle.cspm_values.specs.Sets.{is_included, union_with, intersection_with, difference_with, union_of_all, intersection_of_all, membership, cardinality, emptiness, set_of_sequence, sequence_of_set}
use Rattle.cspm_values.specs.Sequences.{appended, length_of, head_of, tail_of, is_null, is_element, concatenation}

-- ---- numbers

unfoldable pub calculated : Operator → ℤ → ℤ → Answer ℤ
calculated operators.Plus y z = limited (y +ℤ z)
calculated operators.Minus y z = limited (y -ℤ z)
calculated operators.Times y z = limited (y *ℤ z)
calculated operators.Divide y z = divided y z
calculated operators.Remainder y z = left_over y z
calculated op y z = fault

unfoldable pub computed : Operator → List Value → Answer Value
computed op vs = two_numbers vs >>= λ p. calculated op p.0 p.1 >>= λ z. gives (number_value z)

unfoldable pub negated : List Value → Answer Value
negated vs = wanted (one_of vs) >>= λ v. the_number v >>= λ y. limited (pos 0 -ℤ y) >>= λ z. gives (number_value z)

unfoldable pub ranged : Kind → List Value → Answer Value
ranged k vs = two_numbers vs >>= λ p. range p.0 p.1 >>= made k

-- ---- comparisons

-- numbers by size, sets by inclusion
unfoldable pub is_at_most : Value → Value → Answer Bool
is_at_most (value (number y) vs) w = the_number w >>= λ z. gives (int_le y z)
is_at_most (value set vs) w = the_set w >>= λ ws. gives (is_included (listed vs) ws)
is_at_most v w = fault

-- at most, and not the same
unfoldable pub is_less : Value → Value → Answer Bool
is_less v w = is_at_most v w >>= λ b. is_at_most w v >>= λ c. gives (b && not c)

unfoldable pub compared : Operator → Value → Value → Answer Bool
compared operators.Equal v w = gives (is_same v w)
compared operators.NotEqual v w = gives (not (is_same v w))
compared operators.Less v w = is_less v w
compared operators.LessOrEqual v w = is_at_most v w
compared operators.Greater v w = is_less w v
compared operators.GreaterOrEqual v w = is_at_most w v
compared op v w = fault

unfoldable pub comparison : Operator → List Value → Answer Value
comparison op vs = wanted (two_of vs) >>= λ p. compared op p.0 p.1 >>= λ b. gives (truth_value b)

unfoldable pub is_comparison : Operator → Bool
is_comparison operators.Equal = true
is_comparison operators.NotEqual = true
is_comparison operators.Less = true
is_comparison operators.LessOrEqual = true
is_comparison operators.Greater = true
is_comparison operators.GreaterOrEqual = true
is_comparison op = false

-- ---- all operators but `and` and `or`, and functions

unfoldable pub operated : Operator → List Value → Answer Value
operated operators.Append vs = appended vs
operated op vs = if is_comparison op then comparison op vs else computed op vs

unfoldable pub negated_truth : List Value → Answer Value
negated_truth vs = wanted (one_of vs) >>= λ v. the_truth v >>= λ b. gives (truth_value (not b))

unfoldable pub applied : Function → List Value → Answer Value
applied functions.Union vs = union_with vs
applied functions.Intersection vs = intersection_with vs
applied functions.Difference vs = difference_with vs
applied functions.UnionOfAll vs = union_of_all vs
applied functions.IntersectionOfAll vs = intersection_of_all vs
applied functions.Member vs = membership vs
applied functions.Card vs = cardinality vs
applied functions.Empty vs = emptiness vs
applied functions.SetOfSequence vs = set_of_sequence vs
applied functions.SequenceOfSet vs = sequence_of_set vs
applied functions.Length vs = length_of vs
applied functions.Head vs = head_of vs
applied functions.Tail vs = tail_of vs
applied functions.Null vs = is_null vs
applied functions.Element vs = is_element vs
applied functions.Concat vs = concatenation vs
