-- Lists in memory as plain lists.
use Rattle.std.proofs.Common.{◌≡◌, ℕ, zero, suc, ◌+◌, ◌-◌, ◌<◌, ◌≤◌, List, [], ◌∷◌, length, drop, get_or, Vec, Bool, true, false, cond, refl, sym, ap, ap₂, ◌∙◌, arith, drop-cons}
use Rattle.std.specs.Ordering.{ordering_then}
use Rattle.std.specs.declared.cmp.Ordering.{Ordering}
use Rattle.std.specs.declared.cmp.Ordering.TheVariants.{Less, Equal, Greater}
use mathlib.Core.Former.{Count}
use Rattle.cspm_values.specs.declared.value.Head.{Head}
use Rattle.cspm_values.specs.declared.value.Value.{Value, Of, Row_of-Value, end_of-Value, more_of-Value, items-the_row-Value, items_hidden-the_row-Value-0}
use Rattle.cspm_values.specs.declared.value.Value.TheVariants as stored
use Rattle.cspm_values.specs.Values as plain
use Rattle.cspm_values.specs.Values.{row_of, none, more, listed, head_cmp, value_cmp, values_cmp}
use Rattle.cspm_values.specs.Limits.{is_within, are_within}
use Rattle.cspm_values.specs.View.{head, value, values, row_values}

-- ---- a list and what is left of it

pub cell : {X : Type 0} (xs : List X) (i : ℕ) (x : X) → i < length xs → x ≡ get_or xs i x → drop i xs ≡ x ∷ drop (i + 1) xs
cell xs i x h is =
    let e : suc i ≡ i + 1 = omega arith in
    drop-cons xs i x h ∙ ap (λ (k : ℕ). get_or xs i x ∷ drop k xs) e ∙ ap (λ y. y ∷ drop (i + 1) xs) (sym is)

pub none_left : {X : Type 0} (xs : List X) (i : ℕ) → length xs ≤ i → drop i xs ≡ []
none_left [] zero h = refl
none_left [] (suc i) h = refl
none_left (x ∷ xs) zero h = absurd (omega (arith, h))
none_left (x ∷ xs) (suc i) h = none_left xs i (omega (arith, h))

some_left : {X : Type 0} (xs : List X) (i : ℕ) → i < length xs → (x : X) × (drop i xs ≡ x ∷ drop (i + 1) xs)
some_left [] i h = absurd (omega (arith, h))
some_left (x ∷ xs) zero h = (x, refl)
some_left (x ∷ xs) (suc i) h =
    let p = some_left xs i (omega (arith, h)) in
    let e : suc i + 1 ≡ suc (i + 1) = omega arith in
    (p.0, p.1 ∙ sym (ap (λ (k : ℕ). p.0 ∷ drop k (x ∷ xs)) e))

-- ---- values

values_row : {A : Type 0} (n : _) (row : Row_of-Value A n) → row_values row ≡ row_of (values (items-the_row-Value A n row))
values_row n end_of-Value = refl
values_row n (more_of-Value v rest) = ap (more (value v)) (values_row _ rest)

abbrev parts_in : {A : Type 0} → Value A → (n : Count) × Row_of-Value A n
parts_in (stored.Of' h n row) = (_, row)
parts_in _ = (_, end_of-Value)

-- a value that was made of a list has the parts of the list
pub value_is : {A : Type 0} (h : Head A) (v : Vec (Value A) A) → value (Of h v) ≡ plain.value (head h) (row_of (values v.items))
value_is {A = A} h v =
    let row = parts_in (Of h v) in
    ap (plain.value (head h)) (values_row row.0 row.1 ∙ ap (λ (vs : List (Value A)). row_of (values vs)) (items_hidden-the_row-Value-0 A v))

pub parts_back : (vs : List plain.Value) → listed (row_of vs) ≡ vs
unfolding listed
parts_back [] = refl
parts_back (v ∷ vs) = ap (λ us. v ∷ us) (parts_back vs)

pub same_value : {A : Type 0} (v : Value A) (h g : Head A) (p q : Vec (Value A) A) (ts : List (Value A)) → v ≡ Of h p → ts ≡ p.items → head g ≡ head h → values q.items ≡ values ts → value (Of g q) ≡ value v
same_value v h g p q ts is items same all =
    value_is g q ∙ ap₂ (λ k (vs : List plain.Value). plain.value k (row_of vs)) same (all ∙ ap values items) ∙ sym (value_is h p) ∙ sym (ap value is)

pub split_is : {A : Type 0} (v : Value A) (h : Head A) (p : Vec (Value A) A) (ts : List (Value A)) → v ≡ Of h p → ts ≡ p.items → value v ≡ plain.value (head h) (row_of (values ts))
split_is {A = A} v h p ts is items = ap value is ∙ value_is h p ∙ sym (ap (λ (us : List (Value A)). plain.value (head h) (row_of (values us))) items)

-- ---- how much stands in a value

unfoldable mutual
  pub weight : plain.Value → ℕ
  weight (plain.value h vs) = suc (weights vs)

  pub weights : plain.Values → ℕ
  weights none = 0
  weights (more v vs) = suc (weight v + weights vs)

pub weight_is : (v : plain.Value) (h : plain.Head) (vs : plain.Values) → v ≡ plain.value h vs → weight v ≡ suc (weights vs)
unfolding weight
weight_is v h vs e = ap weight e

pub weight_in : {A : Type 0} (xs : List (Value A)) (i : ℕ) (x : Value A) → i < length xs → x ≡ get_or xs i x → weight (value x) < weights (row_of (values xs))
unfolding weights
weight_in [] i x h is = absurd (omega (arith, h))
weight_in (y ∷ xs) zero x h is = omega (arith, ap (λ z. weight (value z)) is)
weight_in (y ∷ xs) (suc i) x h is = omega (arith, weight_in xs i x (omega (arith, h)) is)

-- ---- the order

pub compare_is : (v w : plain.Value) (h g : plain.Head) (vs ws : plain.Values) (o : Ordering) → v ≡ plain.value h vs → w ≡ plain.value g ws → head_cmp h g ≡ o → value_cmp v w ≡ ordering_then o (values_cmp vs ws)
unfolding value_cmp
compare_is v w h g vs ws o e f heads = ap₂ value_cmp e f ∙ ap (λ p. ordering_then p (values_cmp vs ws)) heads

module _ {A : Type 0} (vs ws : List (Value A)) (i : ℕ) where
  abbrev pub rest_cmp : ℕ → Ordering
  rest_cmp k = values_cmp (row_of (values (drop k vs))) (row_of (values (drop k ws)))

  pub order_more : (v w : Value A) → i < length vs → i < length ws → v ≡ get_or vs i v → w ≡ get_or ws i w → rest_cmp i ≡ ordering_then (value_cmp (value v) (value w)) (rest_cmp (i + 1))
  unfolding values_cmp
  order_more v w h k is at = ap₂ (λ (xs ys : List (Value A)). values_cmp (row_of (values xs)) (row_of (values ys))) (cell vs i v h is) (cell ws i w k at)

  pub order_equal : length vs ≤ i → length ws ≤ i → rest_cmp i ≡ Equal
  unfolding values_cmp
  order_equal h k = ap₂ (λ (xs ys : List (Value A)). values_cmp (row_of (values xs)) (row_of (values ys))) (none_left vs i h) (none_left ws i k)

  pub order_less : length vs ≤ i → i < length ws → rest_cmp i ≡ Less
  unfolding values_cmp
  order_less h k =
      let p = some_left ws i k in
      ap₂ (λ (xs ys : List (Value A)). values_cmp (row_of (values xs)) (row_of (values ys))) (none_left vs i h) p.1

  pub order_greater : i < length vs → length ws ≤ i → rest_cmp i ≡ Greater
  unfolding values_cmp
  order_greater h k =
      let p = some_left vs i h in
      ap₂ (λ (xs ys : List (Value A)). values_cmp (row_of (values xs)) (row_of (values ys))) p.1 (none_left ws i k)

  pub order_turn : (v w : Value A) (c o : Ordering) → i < length vs → i < length ws → v ≡ get_or vs i v → w ≡ get_or ws i w → c ≡ value_cmp (value v) (value w) → c ≡ o → rest_cmp i ≡ ordering_then o (rest_cmp (i + 1))
  order_turn v w c o h k is at made so = order_more v w h k is at ∙ ap (λ p. ordering_then p (rest_cmp (i + 1))) (sym made ∙ so)

-- ---- heights

pub within_none : (k : ℕ) (v : plain.Value) → k ≡ 0 → is_within k v ≡ false
unfolding is_within
within_none k (plain.value h vs) e = ap (λ (n : ℕ). is_within n (plain.value h vs)) e

pub within_more : (k : ℕ) (v : plain.Value) (h : plain.Head) (vs : plain.Values) → (k ≡ 0 → ⊥) → v ≡ plain.value h vs → is_within k v ≡ are_within (k - 1) vs
unfolding is_within
within_more zero v h vs n e = absurd (n refl)
within_more (suc k) v h vs n e =
    let below : k ≡ suc k - 1 = omega arith in
    ap (is_within (suc k)) e ∙ ap (λ (j : ℕ). are_within j vs) below

pub all_within_next : {A : Type 0} (k : ℕ) (vs : List (Value A)) (i : ℕ) (v : Value A) (b : Bool) → i < length vs → v ≡ get_or vs i v → is_within k (value v) ≡ b → are_within k (row_of (values (drop i vs))) ≡ cond b (are_within k (row_of (values (drop (i + 1) vs)))) false
unfolding are_within
all_within_next k vs i v b h is e = ap (λ xs. are_within k (row_of (values xs))) (cell vs i v h is) ∙ ap (λ c. cond c (are_within k (row_of (values (drop (i + 1) vs)))) false) e

pub all_within_end : {A : Type 0} (k : ℕ) (vs : List (Value A)) (i : ℕ) → length vs ≤ i → are_within k (row_of (values (drop i vs))) ≡ true
unfolding are_within
all_within_end k vs i h = ap (λ xs. are_within k (row_of (values xs))) (none_left vs i h)
