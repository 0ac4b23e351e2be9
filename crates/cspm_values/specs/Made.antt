-- Tuples, sequences and sets of values.
use Rattle.std.specs.Prelude.{List, [], ◌∷◌}
use Rattle.std.specs.BTreeSet.{insert_key}
use Rattle.cspm_values.specs.declared.making.Kind.{Kind}
use Rattle.cspm_values.specs.declared.making.Kind.TheVariants as kinds
use Rattle.cspm_values.specs.Answers.{Answer, ◌>>=◌}
use Rattle.cspm_values.specs.Values.{Value, value, tuple, sequence, set, row_of, value_cmp}
use Rattle.cspm_values.specs.Limits.{fitting, sized}

-- values put in their places among those of a set, unless they are there
unfoldable pub with_all : List Value → List Value → List Value
with_all us [] = us
with_all us (v ∷ vs) = with_all (insert_key value_cmp us v) vs

-- the values of a list in their order, and none twice
abbrev pub set_of : List Value → List Value
set_of vs = with_all [] vs

unfoldable pub sequence_value : List Value → Answer Value
sequence_value vs = fitting vs >>= λ us. sized (value sequence (row_of us))

unfoldable pub set_value : List Value → Answer Value
set_value vs = fitting (set_of vs) >>= λ us. sized (value set (row_of us))

unfoldable pub made : Kind → List Value → Answer Value
made kinds.Tuple vs = sized (value tuple (row_of vs))
made kinds.Sequence vs = sequence_value vs
made kinds.Set vs = set_value vs
