-- Values, and their order.
use Rattle.std.specs.Prelude.{ℕ, List, [], ◌∷◌, Bool, true, false, ℤ, pos}
use Rattle.std.specs.List.{list_any}
use Rattle.std.specs.Ordering.{int_cmp, nat_cmp, is_eq, on, then_cmp, ordering_then}
use Rattle.std.specs.Cmp.Lexicographic.{slice_cmp}
use Rattle.std.specs.declared.cmp.Ordering.{Ordering}
use Rattle.std.specs.declared.cmp.Ordering.TheVariants.{Less, Equal, Greater}

-- a name by its bytes
abbrev pub Name : Type 0
Name = List ℕ

-- what a value is, apart from its parts
pub data Head : Type 0 where
  number : ℤ → Head
  truth : Bool → Head
  -- a constructor or a channel, and how many arguments it takes
  constructor : Name → ℕ → Head
  tuple : Head
  sequence : Head
  -- a set, whose parts rise
  set : Head

-- a value: what it is, and its parts, which are arguments so far, or members
mutual
  pub data Value : Type 0 where
    value : Head → Values → Value

  pub data Values : Type 0 where
    none : Values
    more : Value → Values → Values

-- the parts as a list, and back
unfoldable pub listed : Values → List Value
listed none = []
listed (more v vs) = v ∷ listed vs

abbrev pub row_of : List Value → Values
row_of [] = none
row_of (v ∷ vs) = more v (row_of vs)

-- ---- order

-- numbers, truths, constructors, tuples, sequences, sets
abbrev pub rank : Head → ℕ
rank (number z) = 0
rank (truth b) = 1
rank (constructor n k) = 2
rank tuple = 3
rank sequence = 4
rank set = 5

abbrev pub name_of : Head → Name
name_of (constructor n k) = n
name_of h = []

-- a number's size, 0 for false and 1 for true, how many arguments a constructor takes
abbrev pub size_of : Head → ℤ
size_of (number z) = z
size_of (truth false) = pos 0
size_of (truth true) = pos 1
size_of (constructor n k) = pos k
size_of h = pos 0

-- by rank, then constructors by the bytes of their names, numbers by size, false before true
abbrev pub head_cmp : Head → Head → Ordering
head_cmp = then_cmp (then_cmp (on rank nat_cmp) (on name_of (slice_cmp nat_cmp))) (on size_of int_cmp)

unfoldable mutual
  -- by heads, then by parts from left to right; a list comes before its longer ones
  pub value_cmp : Value → Value → Ordering
  value_cmp (value g vs) (value h ws) = ordering_then (head_cmp g h) (values_cmp vs ws)

  pub values_cmp : Values → Values → Ordering
  values_cmp none none = Equal
  values_cmp none (more w ws) = Less
  values_cmp (more v vs) none = Greater
  values_cmp (more v vs) (more w ws) = ordering_then (value_cmp v w) (values_cmp vs ws)

abbrev pub is_same : Value → Value → Bool
is_same v w = is_eq (value_cmp v w)

unfoldable pub is_among : Value → List Value → Bool
is_among v ws = list_any (is_same v) ws
