-- The names in a printed specification: the constants, and the names that are found for the datatype and the bodies.
use Rattle.std.specs.Prelude.{ℕ, zero, suc, List, [], ◌∷◌, ◌++◌, map, length, max, replicate, Bool, not, nat_eq, if◌then◌else◌, codes, decimal}
use Rattle.std.specs.List.{flat_map, list_any, list_all, range_with_len, fold}
use Rattle.std.specs.Ordering.{nat_cmp}
use Rattle.std.specs.Cmp.Lexicographic.{pointwise, slice_cmp}
use Rattle.std.specs.BTreeSet.{insert_key}
use Rattle.std.specs.declared.cmp.Ordering.{Ordering}
use Rattle.alphabet.specs.Channels.{FieldValue, number, constant, Channel}

-- a name by its bytes
abbrev pub Name : Type 0
Name = List ℕ

abbrev pub byte_order : Name → Name → Ordering
byte_order = slice_cmp nat_cmp

-- names in order, and these put among them, none twice
unfoldable pub with_names : List Name → List Name → List Name
with_names names [] = names
with_names names (n ∷ ns) = with_names (insert_key byte_order names n) ns

-- the names by their bytes, none twice
abbrev pub in_order : List Name → List Name
in_order names = with_names [] names

-- the name of a constant
abbrev pub constant_in : FieldValue → List Name
constant_in (number z) = []
constant_in (constant name) = name ∷ []

-- the constants of a channel's fields from left to right
abbrev pub constants_in : Channel → List Name
constants_in c = flat_map (flat_map constant_in) c.fields

-- the constants of all fields by their bytes
abbrev pub constants : List Channel → List Name
constants cs = in_order (flat_map constants_in cs)

-- the names of the constants and of the channels
abbrev pub taken : List Channel → List Name
taken cs = in_order (flat_map constants_in cs ++ map (λ c. c.name) cs)

abbrev pub is_among : List Name → Name → Bool
is_among names name = list_any (pointwise nat_eq name) names

-- the name with so many primes
abbrev pub primed : Name → ℕ → Name
primed name n = name ++ replicate n 39

-- with so many primes each of the names differs from those taken
abbrev pub differ : List Name → List Name → ℕ → Bool
differ taken names n = list_all (λ name. not (is_among taken (primed name n))) names

-- the first number from n on that passes the test, of so many that are tried; else the one after them
unfoldable pub first_from : (ℕ → Bool) → ℕ → ℕ → ℕ
first_from test n zero = n
first_from test n (suc more) = if test n then n else first_from test (suc n) more

-- the length of the longest name
abbrev pub longest : List Name → ℕ
longest names = fold (λ most name. max most (length name)) 0 names

-- the least number of primes that makes each of the names differ from those taken; as many as the longest of these is long always do
abbrev pub least_primes : List Name → List Name → ℕ
least_primes taken names = first_from (differ taken names) 0 (longest taken)

-- the name of the datatype, and that of the body with this number, before they have their primes
abbrev pub datatype_name : Name
datatype_name = codes "T"

abbrev pub body_name : ℕ → Name
body_name k = codes "P" ++ decimal k

-- how many primes the names of so many bodies have
abbrev pub body_primes : List Channel → ℕ → ℕ
body_primes cs n = least_primes (taken cs) (map body_name (range_with_len 0 n))

-- how many primes the datatype's name has
abbrev pub datatype_primes : List Channel → ℕ
datatype_primes cs = least_primes (taken cs) (datatype_name ∷ [])
