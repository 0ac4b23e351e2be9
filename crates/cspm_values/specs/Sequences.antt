-- Functions of sequences.
use Rattle.std.specs.Prelude.{List, [], ◌∷◌, ◌++◌, length, pos}
use Rattle.cspm_values.specs.Answers.{Answer, gives, wanted, ◌>>=◌}
use Rattle.cspm_values.specs.Values.{Value, is_among}
use Rattle.cspm_values.specs.Limits.{limited, fitting}
use Rattle.cspm_values.specs.Parts.{first_of, two_of, the_sequence, two_sequences, only_sequence, number_value, truth_value}
use Rattle.cspm_values.specs.Made.{sequence_value}
use Rattle.cspm_values.specs.Sets.{is_nothing}

-- us, and then the members of all these sequences
unfoldable pub joined : List Value → List Value → Answer (List Value)
joined us [] = gives us
joined us (v ∷ vs) = the_sequence v >>= λ ws. fitting (us ++ ws) >>= λ all. joined all vs

-- ---- `^`, `#` and `length`, `head`, `tail`, `null`, `elem`, `concat`

unfoldable pub appended : List Value → Answer Value
appended vs = two_sequences vs >>= λ p. sequence_value (p.0 ++ p.1)

unfoldable pub length_of : List Value → Answer Value
length_of vs = only_sequence vs >>= λ us. limited (pos (length us)) >>= λ z. gives (number_value z)

unfoldable pub head_of : List Value → Answer Value
head_of vs = only_sequence vs >>= λ us. wanted (first_of us) >>= λ p. gives p.0

unfoldable pub tail_of : List Value → Answer Value
tail_of vs = only_sequence vs >>= λ us. wanted (first_of us) >>= λ p. sequence_value p.1

unfoldable pub is_null : List Value → Answer Value
is_null vs = only_sequence vs >>= λ us. gives (truth_value (is_nothing us))

unfoldable pub is_element : List Value → Answer Value
is_element vs = wanted (two_of vs) >>= λ p. the_sequence p.1 >>= λ ws. gives (truth_value (is_among p.0 ws))

unfoldable pub concatenation : List Value → Answer Value
concatenation vs = only_sequence vs >>= λ us. joined [] us >>= sequence_value
