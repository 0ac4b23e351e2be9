-- Numbers within their limits, and sets of values in order.
use Rattle.std.specs.Prelude.{ℕ, zero, suc, List, [], ◌∷◌, Bool, not, ◌&&◌, Option, Some, None, if◌then◌else◌, nat_le, length, filter, ℤ, pos, negsuc, ◌+ℤ◌, int_lt, int_le, int_rem}
use Rattle.std.specs.List.{list_any}
use Rattle.std.specs.Int.{int_gap}
use Rattle.std.specs.Ordering.{int_cmp, nat_cmp, is_eq}
use Rattle.std.specs.Cmp.Lexicographic.{slice_cmp}
use Rattle.std.specs.BTreeSet.{insert_key}
use Rattle.std.specs.declared.cmp.Ordering.{Ordering}
use Rattle.std.specs.declared.cmp.Ordering.TheVariants.{Less, Greater}
use Rattle.alphabet.specs.Channels.{FieldValue, number, constant, Values}

infixl 10 ◌>>=◌
-- nothing where the first is nothing, else what the second makes of it
abbrev pub ◌>>=◌ : {A B : Type 0} → Option A → (A → Option B) → Option B
(Some x) >>= f = f x
None >>= f = None

-- a name by its bytes
abbrev pub Name : Type 0
Name = List ℕ

-- ---- numbers

-- numbers are from -1,000,000 to 1,000,000
unfoldable pub limited : ℤ → Option ℤ
limited z = if int_le (negsuc 999999) z && int_le z (pos 1000000) then Some z else None

-- x % y, where x is at least 0 and y above 0
unfoldable pub remainder : ℤ → ℤ → Option ℤ
remainder x y = if int_le (pos 0) x && int_lt (pos 0) y then Some (int_rem x y) else None

-- ---- sets

-- numbers by size, then constants by the bytes of their names
abbrev pub value_cmp : FieldValue → FieldValue → Ordering
value_cmp (number y) (number z) = int_cmp y z
value_cmp (number y) (constant n) = Less
value_cmp (constant m) (number z) = Greater
value_cmp (constant m) (constant n) = slice_cmp nat_cmp m n

unfoldable pub is_same : FieldValue → FieldValue → Bool
is_same v w = is_eq (value_cmp v w)

unfoldable pub is_among : FieldValue → Values → Bool
is_among v vs = list_any (is_same v) vs

-- the values of the list in order and none twice
unfoldable pub set_of : Values → Values
set_of [] = []
set_of (v ∷ vs) = insert_key value_cmp (set_of vs) v

-- the values of the first set and those of the second, in order
unfoldable pub union : Values → Values → Values
union vs [] = vs
union vs (w ∷ ws) = union (insert_key value_cmp vs w) ws

unfoldable pub intersection : Values → Values → Values
intersection vs ws = filter (λ v. is_among v ws) vs

unfoldable pub difference : Values → Values → Values
difference vs ws = filter (λ v. not (is_among v ws)) vs

-- a set has at most 65,536 values
unfoldable pub fitting_set : Values → Option Values
fitting_set vs = if nat_le (length vs) 65536 then Some vs else None

-- so many numbers from z on
unfoldable pub numbers_from : ℤ → ℕ → Values
numbers_from z zero = []
numbers_from z (suc n) = number z ∷ numbers_from (z +ℤ pos 1) n

-- the numbers from x to y, of which there are at most 65,536
unfoldable pub range : ℤ → ℤ → Option Values
range x y = if int_lt y x then Some [] else (if int_le y (x +ℤ pos 65535) then Some (numbers_from x (suc (int_gap x y))) else None)
