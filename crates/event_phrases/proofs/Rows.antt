-- Values that compare as equal are the same.
use Rattle.std.proofs.Common.{◌≡◌, ℕ, List, [], ◌∷◌, map, drop, ◌||◌, refl, sym, ap, ap₂, ◌∙◌}
use Rattle.std.specs.List.{list_any}
use Rattle.std.proofs.lemmas.List.{drop-map}
use Rattle.std.specs.Ordering.{is_eq, ordering_reverse}
use Rattle.std.specs.declared.cmp.Ordering.{Ordering}
use Rattle.std.specs.declared.cmp.Ordering.TheVariants.{Less, Equal, Greater}
use Rattle.alphabet.specs.Channels.{FieldValue}
use Rattle.values.specs.declared.value.Value.{Value}
use Rattle.values.specs.Order.{value_total}
use Rattle.values.specs.Values.{value_cmp, is_same, is_among}
use Rattle.values.specs.View.{value}

pub same_value : (u v : FieldValue) → is_eq (value_cmp u v) ≡ is_same u v
unfolding is_same
same_value u v = refl

turned_eq : (o : Ordering) → is_eq (ordering_reverse o) ≡ is_eq o
turned_eq Less = refl
turned_eq Equal = refl
turned_eq Greater = refl

turned : (u v : FieldValue) → is_eq (value_cmp u v) ≡ is_eq (value_cmp v u)
turned u v = ap is_eq (value_total.antisymm u v) ∙ turned_eq (value_cmp v u)

-- a value is among those of a list
pub among : {A : Type 0} (vs : List (Value A)) (v : Value A) → list_any (λ w. is_eq (value_cmp (value w) (value v))) vs ≡ is_among (value v) (map value vs)
unfolding is_among is_same
among [] v = refl
among (w ∷ ws) v = ap₂ (λ a b. a || b) (turned (value w) (value v)) (among ws v)

-- the values after so many
pub drop_view : {A : Type 0} (vs : List (Value A)) (n : ℕ) → map value (drop n vs) ≡ drop n (map value vs)
drop_view vs n = sym (drop-map value n vs)
