-- The elements of a list.
use Rattle.std.specs.Prelude.{List, [], ◌∷◌}

-- x stands in the list
pub data In {A : Type 0} : A → List A → Type 0 where
  here : {x : A} {xs : List A} → In x (x ∷ xs)
  there : {x y : A} {xs : List A} → In x xs → In x (y ∷ xs)

-- nothing stands twice
abbrev pub Distinct : {A : Type 0} → List A → Type 0
Distinct [] = Unit {0}
Distinct (x ∷ xs) = (In x xs → ⊥) × Distinct xs
