-- Definitions with values in memory: the test whether they are the same.
use Rattle.std.proofs.Common.{◌≡◌, List, [], ◌∷◌, ◌&&◌, nat_eq, refl, ap}
use Rattle.std.specs.Cmp.Lexicographic.{pointwise}
use Rattle.std.specs.Ordering.{on, eq_by_cmp}
use Rattle.values.specs.declared.value.Value.{Value}
use Rattle.values.specs.Values.{value_cmp, is_same}
use Rattle.values.specs.Names.{same_name}
use Rattle.values.specs.View.{value}
use Rattle.event_phrases.specs.View.{listed}
use Rattle.denotation.specs.declared.call.Call.{Call}
use Rattle.denotation.specs.Bodies.{same_key}
use Rattle.denotation.specs.View.{key}

module _ {A : Type 0} where
  values_test : (us vs : List (Value A)) → pointwise (eq_by_cmp (on value value_cmp)) us vs ≡ pointwise is_same (listed us) (listed vs)
  unfolding is_same
  values_test [] [] = refl
  values_test [] (v ∷ vs) = refl
  values_test (u ∷ us) [] = refl
  values_test (u ∷ us) (v ∷ vs) = ap (λ b. is_same (value u) (value v) && b) (values_test us vs)

  -- both tests say the same as the one for definitions with values
  pub call_test : (a b : Call A) → (pointwise nat_eq a.name.items b.name.items && pointwise (eq_by_cmp (on value value_cmp)) a.arguments.items b.arguments.items) ≡ same_key (key a) (key b)
  unfolding same_key
  call_test a b = ap (λ t. same_name a.name.items b.name.items && t) (values_test a.arguments.items b.arguments.items)
