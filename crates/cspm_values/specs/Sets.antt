-- Functions of sets.
use Rattle.std.specs.Prelude.{List, [], ◌∷◌, ◌++◌, Bool, true, false, not, filter, length, pos}
use Rattle.cspm_values.specs.Answers.{Answer, gives, wanted, ◌>>=◌}
use Rattle.cspm_values.specs.Values.{Value, value, set, row_of, is_among}
use Rattle.cspm_values.specs.Limits.{limited, fitting, sized}
use Rattle.cspm_values.specs.Parts.{first_of, two_of, the_set, two_sets, only_set, only_sequence, number_value, truth_value}
use Rattle.cspm_values.specs.Made.{with_all, set_value, sequence_value}

-- those of the first that are among the second
unfoldable pub intersection : List Value → List Value → List Value
intersection vs ws = filter (λ v. is_among v ws) vs

-- those of the first that aren't among the second
unfoldable pub difference : List Value → List Value → List Value
difference vs ws = filter (λ v. not (is_among v ws)) vs

unfoldable pub is_nothing : List Value → Bool
is_nothing [] = true
is_nothing (v ∷ vs) = false

-- all of the first are among the second
unfoldable pub is_included : List Value → List Value → Bool
is_included vs ws = is_nothing (difference vs ws)

-- the members of all these sets, and those of us
unfoldable pub united : List Value → List Value → Answer (List Value)
united us [] = gives us
united us (v ∷ vs) = the_set v >>= λ ws. fitting (with_all us ws) >>= λ all. united all vs

-- what of us is in all these sets
unfoldable pub shared : List Value → List Value → Answer (List Value)
shared us [] = gives us
shared us (v ∷ vs) = the_set v >>= λ ws. shared (intersection us ws) vs

-- what all these sets share, where there is one
unfoldable pub shared_by : List Value → Answer (List Value)
shared_by vs = wanted (first_of vs) >>= λ p. the_set p.0 >>= λ us. shared us p.1

unfoldable pub set_with : List Value → Answer Value
set_with us = sized (value set (row_of us))

-- ---- `union`, `inter`, `diff`, `Union`, `Inter`, `member`, `card`, `empty`, `set`, `seq`

unfoldable pub union_with : List Value → Answer Value
union_with vs = two_sets vs >>= λ p. set_value (p.0 ++ p.1)

unfoldable pub intersection_with : List Value → Answer Value
intersection_with vs = two_sets vs >>= λ p. set_with (intersection p.0 p.1)

unfoldable pub difference_with : List Value → Answer Value
difference_with vs = two_sets vs >>= λ p. set_with (difference p.0 p.1)

unfoldable pub union_of_all : List Value → Answer Value
union_of_all vs = only_set vs >>= λ us. united [] us >>= set_with

unfoldable pub intersection_of_all : List Value → Answer Value
intersection_of_all vs = only_set vs >>= λ us. shared_by us >>= set_with

unfoldable pub membership : List Value → Answer Value
membership vs = wanted (two_of vs) >>= λ p. the_set p.1 >>= λ ws. gives (truth_value (is_among p.0 ws))

unfoldable pub cardinality : List Value → Answer Value
cardinality vs = only_set vs >>= λ us. limited (pos (length us)) >>= λ z. gives (number_value z)

unfoldable pub emptiness : List Value → Answer Value
emptiness vs = only_set vs >>= λ us. gives (truth_value (is_nothing us))

unfoldable pub set_of_sequence : List Value → Answer Value
set_of_sequence vs = only_sequence vs >>= set_value

unfoldable pub sequence_of_set : List Value → Answer Value
sequence_of_set vs = only_set vs >>= sequence_value
