-- The parts that operators and functions want.
use Rattle.std.specs.Prelude.{List, [], ◌∷◌, Option, Some, None, Bool, ℤ}
use Rattle.cspm_values.specs.Answers.{Answer, gives, fault, wanted, ◌>>=◌}
use Rattle.cspm_values.specs.Values.{Value, value, number, truth, sequence, set, none, listed}

infixl 10 ◌>>?◌
-- nothing where the first is nothing, else what the second makes of it
abbrev pub ◌>>?◌ : {X Y : Type 0} → Option X → (X → Option Y) → Option Y
None >>? f = None
(Some x) >>? f = f x

-- the first, and those after it
unfoldable pub first_of : {X : Type 0} → List X → Option (X × List X)
first_of [] = None
first_of (x ∷ xs) = Some (x, xs)

-- the only one, the two, the three
unfoldable pub one_of : {X : Type 0} → List X → Option X
one_of [] = None
one_of (x ∷ []) = Some x
one_of (x ∷ y ∷ xs) = None

unfoldable pub two_of : {X : Type 0} → List X → Option (X × X)
two_of xs = first_of xs >>? λ p. one_of p.1 >>? λ y. Some (p.0, y)

unfoldable pub three_of : {X : Type 0} → List X → Option (X × X × X)
three_of xs = first_of xs >>? λ p. two_of p.1 >>? λ q. Some (p.0, q.0, q.1)

-- ---- values of a kind

abbrev pub number_value : ℤ → Value
number_value z = value (number z) none

abbrev pub truth_value : Bool → Value
truth_value b = value (truth b) none

unfoldable pub the_number : Value → Answer ℤ
the_number (value (number z) vs) = gives z
the_number v = fault

unfoldable pub the_truth : Value → Answer Bool
the_truth (value (truth b) vs) = gives b
the_truth v = fault

-- the members of a set, of a sequence
unfoldable pub the_set : Value → Answer (List Value)
the_set (value set vs) = gives (listed vs)
the_set v = fault

unfoldable pub the_sequence : Value → Answer (List Value)
the_sequence (value sequence vs) = gives (listed vs)
the_sequence v = fault

-- what a generator goes over: a set in its order, or a sequence
unfoldable pub the_members : Value → Answer (List Value)
the_members (value set vs) = gives (listed vs)
the_members (value sequence vs) = gives (listed vs)
the_members v = fault

unfoldable pub two_numbers : List Value → Answer (ℤ × ℤ)
two_numbers vs = wanted (two_of vs) >>= λ p. the_number p.0 >>= λ y. the_number p.1 >>= λ z. gives (y, z)

unfoldable pub two_sets : List Value → Answer (List Value × List Value)
two_sets vs = wanted (two_of vs) >>= λ p. the_set p.0 >>= λ us. the_set p.1 >>= λ ws. gives (us, ws)

unfoldable pub two_sequences : List Value → Answer (List Value × List Value)
two_sequences vs = wanted (two_of vs) >>= λ p. the_sequence p.0 >>= λ us. the_sequence p.1 >>= λ ws. gives (us, ws)

unfoldable pub only_set : List Value → Answer (List Value)
only_set vs = wanted (one_of vs) >>= the_set

unfoldable pub only_sequence : List Value → Answer (List Value)
only_sequence vs = wanted (one_of vs) >>= the_sequence
