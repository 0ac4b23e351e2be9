-- Sets of values in memory.
use Rattle.std.proofs.Common.{◌≡◌, ◌<◌, ◌≤◌, Option, Some, None, List, [], ◌∷◌, map, length, filter, Bool, true, false, not, ◌||◌, cond, refl, sym, ap, ap₂, ◌∙◌, arith}
use Rattle.std.proofs.lemmas.List.{length-map}
use Rattle.std.proofs.lemmas.Bool.{le-leb, lt-leb}
use Rattle.std.proofs.Math.Dec.{leb}
use Rattle.std.specs.List.{AllZip, list_any}
use Rattle.std.specs.Ordering.{on, match_ordering, is_eq}
use Rattle.std.specs.BTreeSet.{insert_key}
use Rattle.std.specs.BTreeMap.{is_at}
use Rattle.std.specs.declared.cmp.Ordering.{Ordering}
use Rattle.std.specs.declared.cmp.Ordering.TheVariants.{Less, Equal, Greater}
use Rattle.values.specs.declared.value.Value.{Value}
use Rattle.alphabet.specs.Channels.{FieldValue, Values}
use Rattle.values.specs.Values.{value_cmp, fitting_set, union, intersection, difference, is_among, is_same}
use Rattle.values.specs.View.{value}

-- a value put in its place
pub insert_view : {A : Type 0} (ks : List (Value A)) (k : Value A) → map value (insert_key (on value value_cmp) ks k) ≡ insert_key value_cmp (map value ks) (value k)
insert_view [] k = refl
insert_view (x ∷ xs) k = by (value_cmp (value k) (value x)) (insert_view xs k)
  where
    by : (o : Ordering) → map value (insert_key (on value value_cmp) xs k) ≡ insert_key value_cmp (map value xs) (value k) → map value (match_ordering o (k ∷ x ∷ xs) (x ∷ xs) (x ∷ insert_key (on value value_cmp) xs k)) ≡ match_ordering o (value k ∷ value x ∷ map value xs) (value x ∷ map value xs) (value x ∷ insert_key value_cmp (map value xs) (value k))
    by Less h = refl
    by Equal h = refl
    by Greater h = ap (λ vs. value x ∷ vs) h

pub union_more : {A : Type 0} (xs ys zs ws : List (Value A)) (k : Value A) (whole : Values) → union (map value xs) (map value ys) ≡ whole → ys ≡ k ∷ zs → ws ≡ insert_key (on value value_cmp) xs k → union (map value ws) (map value zs) ≡ whole
unfolding union
union_more xs ys zs ws k whole inv h is =
    ap (λ vs. union (map value vs) (map value zs)) is ∙ ap (λ vs. union vs (map value zs)) (insert_view xs k) ∙ sym (ap (λ vs. union (map value xs) (map value vs)) h) ∙ inv

pub union_end : {A : Type 0} (xs ys : List (Value A)) (whole : Values) → union (map value xs) (map value ys) ≡ whole → length ys ≡ 0 → map value xs ≡ whole
unfolding union
union_end xs [] whole inv h = inv
union_end xs (y ∷ ys) whole inv h = absurd (omega (arith, h))

-- the set where it fits
abbrev fitting_by : Bool → Values → Option Values
fitting_by b vs = cond b (Some vs) None

fitting_is : {A : Type 0} (xs : List (Value A)) (b : Bool) → leb (length xs) 65536 ≡ b → fitting_set (map value xs) ≡ fitting_by b (map value xs)
unfolding fitting_set
fitting_is xs b h = ap (λ n. fitting_by (leb n 65536) (map value xs)) (length-map xs value) ∙ ap (λ b. fitting_by b (map value xs)) h

pub fits : {A : Type 0} (xs : List (Value A)) → length xs ≤ 65536 → fitting_set (map value xs) ≡ Some (map value xs)
fits xs h = fitting_is xs true (le-leb (length xs) 65536 h)

pub too_many : {A : Type 0} (xs : List (Value A)) → 65536 < length xs → fitting_set (map value xs) ≡ None
too_many xs h = fitting_is xs false (lt-leb (length xs) 65536 h)

pub same_values : {A : Type 0} (xs ys : List (Value A)) → AllZip (λ v copy. value copy ≡ value v) xs ys → map value ys ≡ map value xs
same_values [] [] h = refl
same_values [] (y ∷ ys) h = absurd h
same_values (x ∷ xs) [] h = absurd h
same_values (x ∷ xs) (y ∷ ys) h = ap₂ (λ v vs. v ∷ vs) h.0 (same_values xs ys h.1)

-- ---- parts of sets

filter_view : {A : Type 0} (p : FieldValue → Bool) (xs : List (Value A)) → map value (filter (λ x. p (value x)) xs) ≡ filter p (map value xs)
filter_view p [] = refl
filter_view p (x ∷ xs) = by (p (value x)) (filter_view p xs)
  where
    by : (b : Bool) → map value (filter (λ x. p (value x)) xs) ≡ filter p (map value xs) → map value (cond b (x ∷ filter (λ x. p (value x)) xs) (filter (λ x. p (value x)) xs)) ≡ cond b (value x ∷ filter p (map value xs)) (filter p (map value xs))
    by true h = ap (λ vs. value x ∷ vs) h
    by false h = h

-- a value is in a set
pub among_view : {A : Type 0} (v : Value A) (ks : List (Value A)) → list_any (is_at (on value value_cmp v)) ks ≡ is_among (value v) (map value ks)
unfolding is_among is_same
among_view v [] = refl
among_view v (k ∷ ks) = ap (λ b. is_eq (value_cmp (value v) (value k)) || b) (among_view v ks)

pub intersection_view : {A : Type 0} (xs ys zs : List (Value A)) → zs ≡ filter (λ x. list_any (is_at (on value value_cmp x)) ys) xs → map value zs ≡ intersection (map value xs) (map value ys)
unfolding intersection
intersection_view xs ys zs h =
    ap (map value) (h ∙ ap (λ p. filter p xs) (λ i x. among_view x ys i)) ∙ filter_view (λ v. is_among v (map value ys)) xs

pub difference_view : {A : Type 0} (xs ys zs : List (Value A)) → zs ≡ filter (λ x. not (list_any (is_at (on value value_cmp x)) ys)) xs → map value zs ≡ difference (map value xs) (map value ys)
unfolding difference
difference_view xs ys zs h =
    ap (map value) (h ∙ ap (λ p. filter p xs) (λ i x. not (among_view x ys i))) ∙ filter_view (λ v. not (is_among v (map value ys))) xs
