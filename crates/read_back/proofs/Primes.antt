-- The names that are found for a datatype and for bodies are no others'.
use Rattle.std.proofs.Common.{◌≡◌, ℕ, zero, suc, ◌+◌, ◌<◌, ◌≤◌, List, [], ◌∷◌, ◌++◌, map, length, max, fold, replicate, nat_eq, Bool, true, false, not, cond, ◌&&◌, ◌||◌, ◌⊎◌, inl, inr, refl, sym, ap, ap₂, ◌∙◌, subst, arith}
use Rattle.std.proofs.lemmas.Bool.{false≢true}
use Rattle.std.proofs.lemmas.Cmp.{nat_list_cmp_total}
use Rattle.std.proofs.lemmas.List.{length-append, length-replicate}
use Rattle.std.proofs.lemmas.Map.Lookups.{exact_bytes}
use Rattle.std.specs.List.{flat_map, range_with_len}
use Rattle.std.specs.Prelude.{decimal}
use Rattle.std.specs.BTreeSet.{insert_key}
use Rattle.std.specs.Cmp.Lexicographic.{pointwise, bytes_decides}
use Rattle.alphabet.specs.Channels.{FieldValue, number, constant, Values, Channel}
use Rattle.alphabet.specs.Elements.{In, here, there, Distinct}
use Rattle.alphabet.proofs.Lists.{In-append_left, In-append_right, In-flat_map, In-under_map, all-In, none-from_In}
use Rattle.printing.specs.Names.{Name, byte_order, with_names, constant_in, constants_in, constants, taken, is_among, primed, differ, first_from, longest, least_primes, datatype_name, datatype_primes, body_name, body_primes}
use Rattle.printing.specs.Printed.{reference}
use Rattle.read_back.proofs.Ordered.{in_flat, range_in, Rises, rises_insert, in_kept, in_from, in_put, rises_distinct}
use Rattle.tokens.proofs.Comments.{same_head}

-- ---- the least number of primes

passes_found : (test : ℕ → Bool) (n more : ℕ) → test (n + more) ≡ true → test (first_from test n more) ≡ true
unfolding first_from
passes_found test n zero h = let e : n + 0 ≡ n = omega arith in ap test (sym e) ∙ h
passes_found test n (suc more) h = by (test n) refl (let e : suc n + more ≡ n + suc more = omega arith in passes_found test (suc n) more (ap test e ∙ h))
  where
    by : (b : Bool) → test n ≡ b → test (first_from test (suc n) more) ≡ true → test (cond b n (first_from test (suc n) more)) ≡ true
    by true e rec = e
    by false e rec = rec

grows : (most : ℕ) (names : List Name) → most ≤ fold (λ most name. max most (length name)) most names
grows most [] = omega arith
grows most (n ∷ names) = omega (arith, grows (max most (length n)) names)

within_longest : (most : ℕ) (names : List Name) (n : Name) → In n names → length n ≤ fold (λ most name. max most (length name)) most names
within_longest most [] n i = elim i [ ]
within_longest most (m ∷ names) n here = omega (arith, grows (max most (length n)) names)
within_longest most (m ∷ names) n (there i) = within_longest (max most (length m)) names n i

not_longer : (m n : Name) → length n < length m → (b : Bool) → pointwise nat_eq m n ≡ b → b ≡ false
not_longer m n h true e = absurd (let k : length m ≡ length n = ap length ((bytes_decides m n).0 e) in omega (arith, h, k))
not_longer m n h false e = refl

abbrev AllSome : List Name → Type 0
AllSome [] = Unit {0}
AllSome (n ∷ ns) = (0 < length n) × AllSome ns

-- with as many primes as the longest of those taken is long, each differs
all_differ : (names others : List Name) → AllSome others → differ names others (longest names) ≡ true
all_differ names [] h = refl
all_differ names (n ∷ others) h =
    let more : length (primed n (longest names)) ≡ length n + longest names = length-append n (replicate (longest names) 39) ∙ ap (λ k. length n + k) (length-replicate (longest names) 39) in
    ap₂ (λ a b. not a && b)
    (none-from_In (pointwise nat_eq (primed n (longest names))) names (λ m i. not_longer (primed n (longest names)) m (omega (arith, within_longest 0 names m i, more, h.0)) (pointwise nat_eq (primed n (longest names)) m) refl))
    (all_differ names others h.1)

found_differ : (names others : List Name) → AllSome others → differ names others (least_primes names others) ≡ true
found_differ names others h = passes_found (differ names others) 0 (longest names) (let e : 0 + longest names ≡ longest names = omega arith in ap (differ names others) e ∙ all_differ names others h)

is_there : (x m : Name) (ms : List Name) → x ≡ m → In m ms → is_among ms x ≡ true
is_there x m [] e i = elim i [ ]
is_there x m (y ∷ ms) e here = ap (λ b. b || is_among ms x) ((bytes_decides x m).1 e)
is_there x m (y ∷ ms) e (there i) = either (pointwise nat_eq x y) (is_there x m ms e i)
  where
    either : (b : Bool) → is_among ms x ≡ true → (b || is_among ms x) ≡ true
    either true h = refl
    either false h = h

-- a name with its primes isn't taken
apart : (names others : List Name) → AllSome others → (n m : Name) → In n others → In m names → primed n (least_primes names others) ≡ m → ⊥
apart names others h n m i j e =
    let p = least_primes names others in
    let k : not (is_among names (primed n p)) ≡ true = all-In (λ name. not (is_among names (primed name p))) others (found_differ names others h) i in
    no (is_among names (primed n p)) k (is_there (primed n p) m names e j)
  where
    no : (b : Bool) → not b ≡ true → b ≡ true → ⊥
    no true p q = false≢true p
    no false p q = false≢true q

-- ---- names in order

kept_with : (x : Name) (ks ns : List Name) → In x ks → In x (with_names ks ns)
unfolding with_names
kept_with x ks [] i = i
kept_with x ks (n ∷ ns) i = kept_with x (insert_key byte_order ks n) ns (in_kept byte_order nat_list_cmp_total x n ks i)

put_with : (x : Name) (ks ns : List Name) → In x ns → In x (with_names ks ns)
unfolding with_names
put_with x ks [] i = elim i [ ]
put_with x ks (n ∷ ns) here = kept_with n (insert_key byte_order ks n) ns (in_put byte_order nat_list_cmp_total exact_bytes n ks)
put_with x ks (n ∷ ns) (there i) = put_with x (insert_key byte_order ks n) ns i

from_with : (x : Name) (ks ns : List Name) → In x (with_names ks ns) → In x ks ⊎ In x ns
unfolding with_names
from_with x ks [] i = inl i
from_with x ks (n ∷ ns) i = elim (from_with x (insert_key byte_order ks n) ns i) [
  | inl j ↦ (elim (in_from byte_order nat_list_cmp_total x n ks j) [ inl e ↦ inr (subst (λ y. In y (n ∷ ns)) (sym e) here) | inr l ↦ inl l ])
  | inr j ↦ inr (there j)
]

rises_with : (ks ns : List Name) → Rises byte_order nat_list_cmp_total ks → Rises byte_order nat_list_cmp_total (with_names ks ns)
unfolding with_names
rises_with ks [] h = h
rises_with ks (n ∷ ns) h = rises_with (insert_key byte_order ks n) ns (rises_insert byte_order nat_list_cmp_total ks n h)

pub constants_distinct : (cs : List Channel) → Distinct (constants cs)
constants_distinct cs = rises_distinct byte_order nat_list_cmp_total (constants cs) (rises_with [] (flat_map constants_in cs) tt)

-- ---- the constants of channels

one_constant : (n : Name) → In n (constant_in (constant n))
one_constant n = here

its_constant : (v : FieldValue) (n : Name) → In n (constant_in v) → v ≡ constant n
its_constant (number z) n i = elim i [ ]
its_constant (constant m) n i = only i
  where
    only : {x : Name} → In x (m ∷ []) → constant m ≡ constant x
    only here = refl
    only (there j) = elim j [ ]

all_constants : (cs : List Channel) (c : Channel) (vs : Values) (n : Name) → In c cs → In vs c.fields → In (constant n) vs → In n (flat_map constants_in cs)
all_constants cs c vs n i j k = in_flat constants_in cs c n i (in_flat (flat_map constant_in) c.fields vs n j (in_flat constant_in vs (constant n) n k (one_constant n)))

pub is_constant : (cs : List Channel) (c : Channel) (vs : Values) (n : Name) → In c cs → In vs c.fields → In (constant n) vs → In n (constants cs)
is_constant cs c vs n i j k = put_with n [] (flat_map constants_in cs) (all_constants cs c vs n i j k)

pub of_fields : (cs : List Channel) (n : Name) → In n (constants cs) → (c : Channel) × (vs : Values) × In c cs × In vs c.fields × In (constant n) vs
of_fields cs n i = elim (from_with n [] (flat_map constants_in cs) i) [ inl j ↦ absurd (elim j [ ]) | inr j ↦ found j ]
  where
    found : In n (flat_map constants_in cs) → (c : Channel) × (vs : Values) × In c cs × In vs c.fields × In (constant n) vs
    found j =
        let (c, i, k) = In-flat_map constants_in cs j in
        let (vs, l, m) = In-flat_map (flat_map constant_in) c.fields k in
        let (v, o, p) = In-flat_map constant_in vs m in
        (c, vs, i, l, subst (λ w. In w vs) (its_constant v n p) o)

constant_taken : (cs : List Channel) (n : Name) → In n (constants cs) → In n (taken cs)
constant_taken cs n i = elim (from_with n [] (flat_map constants_in cs) i) [ inl j ↦ absurd (elim j [ ]) | inr j ↦ put_with n [] (flat_map constants_in cs ++ map (λ c. c.name) cs) (In-append_left (map (λ c. c.name) cs) j) ]

channel_taken : (cs : List Channel) (c : Channel) → In c cs → In c.name (taken cs)
channel_taken cs c i = put_with c.name [] (flat_map constants_in cs ++ map (λ c. c.name) cs) (In-append_right (flat_map constants_in cs) (map (λ c. c.name) cs) (In-under_map (λ (c : Channel). c.name) cs i))

-- ---- no others' names

some_bodies : (start n : ℕ) → AllSome (map body_name (range_with_len start n))
some_bodies start zero = tt
some_bodies start (suc n) = (omega arith, some_bodies (start + 1) n)

in_bodies : (k count : ℕ) → k < count → In (body_name k) (map body_name (range_with_len 0 count))
in_bodies k count l = In-under_map body_name (range_with_len 0 count) (range_in k 0 count (omega arith) (omega (arith, l)))

module _ (cs : List Channel) (count : ℕ) where
  pub body_is_no_constant : (k : ℕ) (n : Name) → k < count → In n (constants cs) → reference (body_primes cs count) k ≡ n → ⊥
  body_is_no_constant k n l i e = apart (taken cs) (map body_name (range_with_len 0 count)) (some_bodies 0 count) (body_name k) n (in_bodies k count l) (constant_taken cs n i) e

  pub body_is_no_channel : (k : ℕ) (c : Channel) → k < count → In c cs → reference (body_primes cs count) k ≡ c.name → ⊥
  body_is_no_channel k c l i e = apart (taken cs) (map body_name (range_with_len 0 count)) (some_bodies 0 count) (body_name k) c.name (in_bodies k count l) (channel_taken cs c i) e

pub datatype_is_no_constant : (cs : List Channel) (n : Name) → In n (constants cs) → primed datatype_name (datatype_primes cs) ≡ n → ⊥
datatype_is_no_constant cs n i e = apart (taken cs) (datatype_name ∷ []) (omega arith, tt) datatype_name n here (constant_taken cs n i) e

pub datatype_is_no_channel : (cs : List Channel) (c : Channel) → In c cs → primed datatype_name (datatype_primes cs) ≡ c.name → ⊥
datatype_is_no_channel cs c i e = apart (taken cs) (datatype_name ∷ []) (omega arith, tt) datatype_name c.name here (channel_taken cs c i) e

pub datatype_is_no_body : (primes n k : ℕ) → primed datatype_name primes ≡ reference n k → ⊥
datatype_is_no_body primes n k e = omega (arith, same_head 84 80 (replicate primes 39) (decimal k ++ replicate n 39) e)
