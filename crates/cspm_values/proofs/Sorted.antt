-- Sets rise, and have what the lists have that they were made of.
use Rattle.std.proofs.Common.{◌≡◌, List, [], ◌∷◌, Bool, true, false, ◌||◌, refl, sym, ap, ◌∙◌}
use Rattle.std.specs.List.{AllByRecursion, list_any}
use Rattle.std.specs.List.Sorted.{IsStrictlySortedBy}
use Rattle.std.specs.Ordering.{match_ordering, ordering_reverse}
use Rattle.std.specs.BTreeSet.{insert_key, BTreeSet}
use Rattle.std.proofs.lemmas.Map.Lookups.{btree_set_from_contains}
use Rattle.std.specs.declared.cmp.Ordering.{Ordering}
use Rattle.std.specs.declared.cmp.Ordering.TheVariants.{Less, Equal, Greater}
use Rattle.cspm_values.specs.Values.{Value, value_cmp, is_same, is_among}
use Rattle.cspm_values.specs.Made.{with_all, set_of}
use Rattle.cspm_values.specs.Order.{value_total, value_exact}
use Rattle.cspm_values.specs.Laws.{ValuesInOrder, SetsOfTheSame}

abbrev Above : Value → List Value → Type 0
Above v ws = AllByRecursion (λ w. value_cmp v w ≡ Less) ws

-- what is below the first is below all
below_all : (v w : Value) (ws : List Value) → value_cmp v w ≡ Less → Above w ws → Above v ws
below_all v w [] h all = tt
below_all v w (x ∷ ws) h all = (value_total.trans v w x h all.0, below_all v w ws h all.1)

above_insert : (v w : Value) (ws : List Value) → value_cmp v w ≡ Less → Above v ws → Above v (insert_key value_cmp ws w)
above_insert v w [] h all = (h, tt)
above_insert v w (x ∷ ws) h all = by (value_cmp w x) (above_insert v w ws h all.1)
  where
    by : (o : Ordering) → Above v (insert_key value_cmp ws w) → Above v (match_ordering o (w ∷ x ∷ ws) (x ∷ ws) (x ∷ insert_key value_cmp ws w))
    by Less rest = (h, all)
    by Equal rest = all
    by Greater rest = (all.0, rest)

turn : (v w : Value) → value_cmp v w ≡ Greater → value_cmp w v ≡ Less
turn v w e = value_total.antisymm w v ∙ ap ordering_reverse e

insert_rises : (ws : List Value) (v : Value) → IsStrictlySortedBy value_cmp ws → IsStrictlySortedBy value_cmp (insert_key value_cmp ws v)
unfolding IsStrictlySortedBy
insert_rises [] v sorted = (tt, tt)
insert_rises (w ∷ ws) v sorted = by (value_cmp v w) refl (insert_rises ws v sorted.1)
  where
    by : (o : Ordering) → value_cmp v w ≡ o → IsStrictlySortedBy value_cmp (insert_key value_cmp ws v) → IsStrictlySortedBy value_cmp (match_ordering o (v ∷ w ∷ ws) (w ∷ ws) (w ∷ insert_key value_cmp ws v))
    by Less e rest = ((e, below_all v w ws e sorted.0), sorted)
    by Equal e rest = sorted
    by Greater e rest = (above_insert w v ws (turn v w e) sorted.0, rest)

all_rise : (us vs : List Value) → IsStrictlySortedBy value_cmp us → IsStrictlySortedBy value_cmp (with_all us vs)
unfolding with_all
all_rise us [] sorted = sorted
all_rise us (v ∷ vs) sorted = all_rise (insert_key value_cmp us v) vs (insert_rises us v sorted)

pub set_rises : (vs : List Value) → IsStrictlySortedBy value_cmp (set_of vs)
unfolding IsStrictlySortedBy
set_rises vs = all_rise [] vs tt

-- ---- members

twice : (a b : Bool) → (a || b) ≡ (a || (a || b))
twice true b = refl
twice false b = refl

swapped : (a b c : Bool) → (a || (b || c)) ≡ (b || (a || c))
swapped true true c = refl
swapped true false c = refl
swapped false b c = refl

or_false : (a : Bool) → (a || false) ≡ a
or_false true = refl
or_false false = refl

insert_among : (q v : Value) (ws : List Value) → list_any (is_same q) (insert_key value_cmp ws v) ≡ (is_same q v || list_any (is_same q) ws)
insert_among q v [] = refl
insert_among q v (w ∷ ws) = by (value_cmp v w) refl (insert_among q v ws)
  where
    by : (o : Ordering) → value_cmp v w ≡ o → list_any (is_same q) (insert_key value_cmp ws v) ≡ (is_same q v || list_any (is_same q) ws) → list_any (is_same q) (match_ordering o (v ∷ w ∷ ws) (w ∷ ws) (w ∷ insert_key value_cmp ws v)) ≡ (is_same q v || (is_same q w || list_any (is_same q) ws))
    by Less e rest = refl
    by Equal e rest =
        twice (is_same q w) (list_any (is_same q) ws) ∙ ap (λ x. is_same q x || (is_same q w || list_any (is_same q) ws)) (sym (value_exact v w e))
    by Greater e rest = ap (λ b. is_same q w || b) rest ∙ swapped (is_same q w) (is_same q v) (list_any (is_same q) ws)

moved : (a b c : Bool) → ((a || b) || c) ≡ (b || (a || c))
moved true true c = refl
moved true false c = refl
moved false b c = refl

all_have : (q : Value) (us vs : List Value) → list_any (is_same q) (with_all us vs) ≡ (list_any (is_same q) us || list_any (is_same q) vs)
unfolding with_all
all_have q us [] = sym (or_false (list_any (is_same q) us))
all_have q us (v ∷ vs) =
    all_have q (insert_key value_cmp us v) vs ∙ ap (λ b. b || list_any (is_same q) vs) (insert_among q v us)
    ∙ moved (is_same q v) (list_any (is_same q) us) (list_any (is_same q) vs)

pub set_has : (q : Value) (vs : List Value) → list_any (is_same q) (set_of vs) ≡ list_any (is_same q) vs
set_has q vs = all_have q [] vs

-- ---- the laws

pub in_order : ValuesInOrder
in_order = record { total = value_total; exact = value_exact }

abbrev tree_of : List Value → BTreeSet Value
tree_of vs = record { keys = set_of vs }

pub same_sets : SetsOfTheSame
unfolding is_among
same_sets vs ws same = btree_set_from_contains value_total (tree_of vs) (tree_of ws) (set_rises vs) (set_rises ws) (λ q. set_has q vs ∙ same q ∙ sym (set_has q ws)) value_exact
