-- Definitions with values of their parameters: the test whether they are the same says just that, and what a table by hash is fed of them.
use Rattle.std.specs.Hash as fed
use Rattle.std.specs.List.{flat_map}
use Rattle.std.specs.Cmp.{IsEquivalence, IsPartialEquivalence, partial_equiv_from_equiv, both_ways, nat_eq_equiv}
use Rattle.std.specs.Cmp.Lexicographic.{pointwise, bytes_decides}
use Rattle.std.specs.Ordering.{ordering_reverse, is_eq}
use Rattle.std.specs.declared.cmp.Ordering.{Ordering}
use Rattle.std.specs.declared.cmp.Ordering.TheVariants.{Less, Equal, Greater}
use Rattle.std.proofs.Common.{◌≡◌, ℕ, List, [], ◌∷◌, Bool, true, false, ◌&&◌, refl, ap, ap₂, subst}
use Rattle.std.proofs.lemmas.Map.Lookups.{exact_signed, exact_bytes}
use Rattle.alphabet.specs.Channels.{FieldValue, number, constant, Values}
use Rattle.values.specs.Values.{Name, value_cmp, is_same}
use Rattle.values.specs.Order.{value_total}
use Rattle.values.specs.Names.{same_name}
use Rattle.denotation.specs.Bodies.{Key, same_key}

-- what a hasher is fed of a value
abbrev pub value_writes : FieldValue → List (List ℕ)
value_writes (number z) = fed.i64 z
value_writes (constant n) = n ∷ []

-- the bytes of the name, and then each value
abbrev pub key_writes : Key → List (List ℕ)
key_writes k = k.0 ∷ flat_map value_writes k.1

-- ---- what is the same is equal

both_so : (a b : Bool) → (a && b) ≡ true → (a ≡ true) × (b ≡ true)
both_so true b e = (refl, e)
both_so false b e = absurd (cc)

equal_only : (o : Ordering) → is_eq o ≡ true → o ≡ Equal
equal_only Less h = absurd (cc)
equal_only Equal h = refl
equal_only Greater h = absurd (cc)

compared : (v w : FieldValue) → value_cmp v w ≡ Equal → v ≡ w
compared (number y) (number z) h = ap number (exact_signed y z h)
compared (number y) (constant n) h = absurd (cc)
compared (constant m) (number z) h = absurd (cc)
compared (constant m) (constant n) h = ap constant (exact_bytes m n h)

pub value_is : (v w : FieldValue) → is_same v w ≡ true → v ≡ w
unfolding is_same
value_is v w h = compared v w (equal_only (value_cmp v w) h)

pub values_are : (vs ws : Values) → pointwise is_same vs ws ≡ true → vs ≡ ws
values_are [] [] h = refl
values_are [] (w ∷ ws) h = absurd (cc)
values_are (v ∷ vs) [] h = absurd (cc)
values_are (v ∷ vs) (w ∷ ws) h =
    let (a, b) = both_so (is_same v w) (pointwise is_same vs ws) h in
    ap₂ (λ x xs. x ∷ xs) (value_is v w a) (values_are vs ws b)

-- the same definition with the same values
pub key_is : (j k : Key) → same_key j k ≡ true → j ≡ k
unfolding same_key
key_is j k h =
    let (a, b) = both_so (same_name j.0 k.0) (pointwise is_same j.1 k.1) h in
    ap₂ (λ n vs. (n, vs)) ((bytes_decides j.0 k.0).0 a) (values_are j.1 k.1 b)

-- ---- what is equal is the same

-- what is the same in both orders is equal
same_both : (o : Ordering) → o ≡ ordering_reverse o → is_eq o ≡ true
same_both Less h = absurd (cc)
same_both Equal h = refl
same_both Greater h = absurd (cc)

pub value_same : (v : FieldValue) → is_same v v ≡ true
unfolding is_same
value_same v = same_both (value_cmp v v) (value_total.antisymm v v)

pub values_same : (vs : Values) → pointwise is_same vs vs ≡ true
values_same [] = refl
values_same (v ∷ vs) = ap₂ (λ a b. a && b) (value_same v) (values_same vs)

pub name_same : (n : Name) → same_name n n ≡ true
name_same [] = refl
name_same (b ∷ bs) = ap₂ (λ x y. x && y) (nat_eq_equiv.refl b) (name_same bs)

pub key_same : (k : Key) → same_key k k ≡ true
unfolding same_key
key_same k = ap₂ (λ a b. a && b) (name_same k.0) (values_same k.1)

-- ---- the laws of the test, through any reading as definitions with values
module _ {K : Type 0} (f : K → Key) where
  pub same_laws : IsEquivalence (λ x y. same_key (f x) (f y))
  same_laws = record {
    refl = λ x. key_same (f x);
    symm = λ x y. both_ways (same_key (f x) (f y)) (same_key (f y) (f x)) (turn x y) (turn y x);
    congr = λ x y z e. ap (λ k. same_key k (f z)) (key_is (f x) (f y) e);
  }
    where
      turn : (x y : K) → same_key (f x) (f y) ≡ true → same_key (f y) (f x) ≡ true
      turn x y e = subst (λ k. same_key k (f x) ≡ true) (key_is (f x) (f y) e) (key_same (f x))

  pub same_partial : IsPartialEquivalence (λ x y. same_key (f x) (f y))
  same_partial = partial_equiv_from_equiv same_laws

  pub same_writes : (x y : K) → same_key (f x) (f y) ≡ true → key_writes (f x) ≡ key_writes (f y)
  same_writes x y e = ap key_writes (key_is (f x) (f y) e)
