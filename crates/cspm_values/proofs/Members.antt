-- Sets in memory, and what is among their members.
use Rattle.std.proofs.Common.{◌≡◌, ℕ, ◌+◌, ◌<◌, ◌≤◌, List, [], ◌∷◌, ◌++◌, length, drop, get_or, filter, Bool, true, false, not, ◌||◌, cond, refl, sym, ap, ◌∙◌, append_assoc, append-nil, arith}
use Rattle.std.proofs.lemmas.List.{map-append}
use Rattle.std.specs.List.{list_any}
use Rattle.std.specs.Ordering.{on, match_ordering, is_eq}
use Rattle.std.specs.BTreeSet.{insert_key}
use Rattle.std.specs.BTreeMap.{is_at}
use Rattle.std.specs.declared.cmp.Ordering.{Ordering}
use Rattle.std.specs.declared.cmp.Ordering.TheVariants.{Less, Equal, Greater}
use Rattle.cspm_values.specs.declared.value.Value.{Value}
use Rattle.cspm_values.specs.Values as plain
use Rattle.cspm_values.specs.Values.{value_cmp, is_same, is_among}
use Rattle.cspm_values.specs.Made.{with_all, set_of}
use Rattle.cspm_values.specs.Sets.{intersection, difference}
use Rattle.cspm_values.specs.View.{value, values}
use Rattle.cspm_values.proofs.Rows.{cell, none_left}
use Rattle.cspm_values.proofs.Sorted.{set_has}

-- ---- sets in memory

-- a value put in its place
insert_view : {A : Type 0} (ks : List (Value A)) (k : Value A) → values (insert_key (on value value_cmp) ks k) ≡ insert_key value_cmp (values ks) (value k)
insert_view [] k = refl
insert_view (x ∷ xs) k = by (value_cmp (value k) (value x)) (insert_view xs k)
  where
    by : (o : Ordering) → values (insert_key (on value value_cmp) xs k) ≡ insert_key value_cmp (values xs) (value k) → values (match_ordering o (k ∷ x ∷ xs) (x ∷ xs) (x ∷ insert_key (on value value_cmp) xs k)) ≡ match_ordering o (value k ∷ value x ∷ values xs) (value x ∷ values xs) (value x ∷ insert_key value_cmp (values xs) (value k))
    by Less h = refl
    by Equal h = refl
    by Greater h = ap (λ vs. value x ∷ vs) h

pub all_more : {A : Type 0} (vs : List (Value A)) (i : ℕ) (v k : Value A) (xs ks : List (Value A)) (whole : List plain.Value) → with_all (values xs) (values (drop i vs)) ≡ whole → i < length vs → v ≡ get_or vs i v → value k ≡ value v → ks ≡ insert_key (on value value_cmp) xs k → with_all (values ks) (values (drop (i + 1) vs)) ≡ whole
unfolding with_all
all_more vs i v k xs ks whole inv h is same put =
    ap (λ us. with_all us (values (drop (i + 1) vs))) (ap values put ∙ insert_view xs k ∙ ap (insert_key value_cmp (values xs)) same)
    ∙ sym (ap (λ us. with_all (values xs) (values us)) (cell vs i v h is)) ∙ inv

pub all_end : {A : Type 0} (vs : List (Value A)) (i : ℕ) (xs : List (Value A)) (whole : List plain.Value) → with_all (values xs) (values (drop i vs)) ≡ whole → length vs ≤ i → values xs ≡ whole
unfolding with_all
all_end vs i xs whole inv h = sym (ap (λ us. with_all (values xs) (values us)) (none_left vs i h)) ∙ inv

pub listed_more : {A : Type 0} (xs ys zs ws : List (Value A)) (v : Value A) (whole : List plain.Value) → values xs ++ values ys ≡ whole → ys ≡ v ∷ zs → ws ≡ xs ++ v ∷ [] → values ws ++ values zs ≡ whole
listed_more xs ys zs ws v whole inv h put =
    ap (λ us. us ++ values zs) (ap values put ∙ map-append value xs (v ∷ [])) ∙ append_assoc (values xs) (value v ∷ []) (values zs)
    ∙ sym (ap (λ us. values xs ++ values us) h) ∙ inv

pub listed_end : {A : Type 0} (xs ys : List (Value A)) (whole : List plain.Value) → values xs ++ values ys ≡ whole → length ys ≡ 0 → values xs ≡ whole
listed_end xs [] whole inv h = sym (append-nil (values xs)) ∙ inv
listed_end xs (y ∷ ys) whole inv h = absurd (omega (arith, h))

-- ---- copies, one after the other

pub copies_more : {A : Type 0} (vs : List (Value A)) (i : ℕ) (v k : Value A) (xs ws : List (Value A)) (whole : List plain.Value) → values xs ++ values (drop i vs) ≡ whole → i < length vs → v ≡ get_or vs i v → value k ≡ value v → ws ≡ xs ++ k ∷ [] → values ws ++ values (drop (i + 1) vs) ≡ whole
copies_more vs i v k xs ws whole inv h is same put =
    ap (λ us. us ++ values (drop (i + 1) vs)) (ap values put ∙ map-append value xs (k ∷ [])) ∙ append_assoc (values xs) (value k ∷ []) (values (drop (i + 1) vs))
    ∙ ap (λ u. values xs ++ u ∷ values (drop (i + 1) vs)) same ∙ sym (ap (λ us. values xs ++ values us) (cell vs i v h is)) ∙ inv

pub copies_end : {A : Type 0} (vs : List (Value A)) (i : ℕ) (xs : List (Value A)) (whole : List plain.Value) → values xs ++ values (drop i vs) ≡ whole → length vs ≤ i → values xs ≡ whole
copies_end vs i xs whole inv h = sym (ap (λ us. values xs ++ values us) (none_left vs i h) ∙ append-nil (values xs)) ∙ inv

-- ---- what is among the members

among_cell : (q v : plain.Value) (vs : List plain.Value) → is_among q (v ∷ vs) ≡ (is_same q v || is_among q vs)
unfolding is_among
among_cell q v vs = refl

pub among_next : {A : Type 0} (q : plain.Value) (vs : List (Value A)) (i : ℕ) (v : Value A) (b : Bool) → i < length vs → v ≡ get_or vs i v → is_same q (value v) ≡ b → is_among q (values (drop i vs)) ≡ (b || is_among q (values (drop (i + 1) vs)))
among_next q vs i v b h is e =
    ap (λ us. is_among q (values us)) (cell vs i v h is) ∙ among_cell q (value v) (values (drop (i + 1) vs)) ∙ ap (λ c. c || is_among q (values (drop (i + 1) vs))) e

pub among_end : {A : Type 0} (q : plain.Value) (vs : List (Value A)) (i : ℕ) → length vs ≤ i → is_among q (values (drop i vs)) ≡ false
unfolding is_among
among_end q vs i h = ap (λ us. is_among q (values us)) (none_left vs i h)

-- a set in memory has a value
pub has_view : {A : Type 0} (v : Value A) (ks : List (Value A)) → list_any (is_at (on value value_cmp v)) ks ≡ is_among (value v) (values ks)
unfolding is_among
has_view v [] = refl
has_view v (k ∷ ks) = ap (λ b. is_eq (value_cmp (value v) (value k)) || b) (has_view v ks)

-- a set has what the list has that it was made of
among_set : (q : plain.Value) (vs ws : List plain.Value) → ws ≡ set_of vs → is_among q ws ≡ is_among q vs
unfolding is_among
among_set q vs ws e = ap (λ us. list_any (is_same q) us) e ∙ set_has q vs

-- ---- what is kept of a list

module _ {A : Type 0} (p : plain.Value → Bool) (vs : List (Value A)) (i : ℕ) (xs : List (Value A)) where
  filter_next : (v : Value A) (b : Bool) → i < length vs → v ≡ get_or vs i v → p (value v) ≡ b → filter p (values (drop i vs)) ≡ cond b (value v ∷ filter p (values (drop (i + 1) vs))) (filter p (values (drop (i + 1) vs)))
  filter_next v b h is e = ap (λ us. filter p (values us)) (cell vs i v h is) ∙ ap (λ c. cond c (value v ∷ filter p (values (drop (i + 1) vs))) (filter p (values (drop (i + 1) vs)))) e

  behind : (b : Bool) (v : plain.Value) (rest : List plain.Value) → (cond b (v ∷ []) []) ++ rest ≡ cond b (v ∷ rest) rest
  behind true v rest = refl
  behind false v rest = refl

  filter_turn : (v : Value A) (ws : List (Value A)) (b : Bool) (whole : List plain.Value) → values xs ++ filter p (values (drop i vs)) ≡ whole → i < length vs → v ≡ get_or vs i v → p (value v) ≡ b → values ws ≡ values xs ++ cond b (value v ∷ []) [] → values ws ++ filter p (values (drop (i + 1) vs)) ≡ whole
  filter_turn v ws b whole inv h is e put =
      ap (λ us. us ++ filter p (values (drop (i + 1) vs))) put ∙ append_assoc (values xs) (cond b (value v ∷ []) []) (filter p (values (drop (i + 1) vs)))
      ∙ ap (λ us. values xs ++ us) (behind b (value v) (filter p (values (drop (i + 1) vs)))) ∙ sym (ap (λ us. values xs ++ us) (filter_next v b h is e)) ∙ inv

  filter_end : (whole : List plain.Value) → values xs ++ filter p (values (drop i vs)) ≡ whole → length vs ≤ i → values xs ≡ whole
  filter_end whole inv h = sym (ap (λ us. values xs ++ filter p (values us)) (none_left vs i h) ∙ append-nil (values xs)) ∙ inv

module _ {A : Type 0} (vs us ks : List (Value A)) (i : ℕ) (xs : List (Value A)) (whole : List plain.Value) (set : values ks ≡ set_of (values us)) where
  -- those of the first list that the set has
  abbrev pub both_from : ℕ → List plain.Value
  both_from k = intersection (values (drop k vs)) (values us)

  found : (q : plain.Value) (b : Bool) → b ≡ is_among q (values ks) → is_among q (values us) ≡ b
  found q b e = sym (e ∙ among_set q (values us) (values ks) set)

  pub kept_next : (v : Value A) (ws : List (Value A)) (b : Bool) → values xs ++ both_from i ≡ whole → i < length vs → v ≡ get_or vs i v → b ≡ is_among (value v) (values ks) → values ws ≡ values xs ++ cond b (value v ∷ []) [] → values ws ++ both_from (i + 1) ≡ whole
  unfolding intersection
  kept_next v ws b inv h is e put = filter_turn (λ q. is_among q (values us)) vs i xs v ws b whole inv h is (found (value v) b e) put

  pub kept_end : values xs ++ both_from i ≡ whole → length vs ≤ i → values xs ≡ whole
  unfolding intersection
  kept_end inv h = filter_end (λ q. is_among q (values us)) vs i xs whole inv h

  -- those that it hasn't
  abbrev pub rest_from : ℕ → List plain.Value
  rest_from k = difference (values (drop k vs)) (values us)

  pub left_next : (v : Value A) (ws : List (Value A)) (b : Bool) → values xs ++ rest_from i ≡ whole → i < length vs → v ≡ get_or vs i v → b ≡ is_among (value v) (values ks) → values ws ≡ values xs ++ cond (not b) (value v ∷ []) [] → values ws ++ rest_from (i + 1) ≡ whole
  unfolding difference
  left_next v ws b inv h is e put = filter_turn (λ q. not (is_among q (values us))) vs i xs v ws (not b) whole inv h is (ap not (found (value v) b e)) put

  pub left_end : values xs ++ rest_from i ≡ whole → length vs ≤ i → values xs ≡ whole
  unfolding difference
  left_end inv h = filter_end (λ q. not (is_among q (values us))) vs i xs whole inv h
