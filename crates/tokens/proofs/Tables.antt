-- Tables: what is found in one, and what a test of the whole says of each row.
use Rattle.std.proofs.Common.{◌≡◌, List, [], ◌∷◌, Bool, true, false, cond, Option, Some, refl, sym, ap, ◌∙◌, ◌⊎◌, inl, inr}
use Rattle.std.specs.Prelude.{find, ◌&&◌}

abbrev pub some_of : {A : Type 0} → A → Option A
some_of x = Some x

pub some_is : {A : Type 0} (x y : A) → some_of x ≡ some_of y → x ≡ y
some_is x y e = cc

abbrev pub In : {A : Type 0} → A → List A → Type 0
In m [] = ⊥
In m (x ∷ xs) = (m ≡ x) ⊎ In m xs

pub found_in : {A : Type 0} (p : A → Bool) (all : List A) (m : A) → find p all ≡ Some m → In m all
found_in p [] m e = absurd cc
found_in p (x ∷ xs) m e = at (p x) refl e (found_in p xs m)
  where
    at : (b : Bool) → p x ≡ b → cond b (Some x) (find p xs) ≡ some_of m → (find p xs ≡ Some m → In m xs) → In m (x ∷ xs)
    at true is f ih = inl (sym (some_is x m f))
    at false is f ih = inr (ih f)

abbrev pub all_pass : {A : Type 0} → (A → Bool) → List A → Bool
all_pass p [] = true
all_pass p (x ∷ xs) = p x && all_pass p xs

pub both : (a b : Bool) → (a && b) ≡ true → (a ≡ true) × (b ≡ true)
both true b e = (refl, e)
both false b e = absurd cc

pub pass_in : {A : Type 0} (p : A → Bool) (all : List A) (m : A) → all_pass p all ≡ true → In m all → p m ≡ true
pass_in p [] m e h = absurd h
pass_in p (x ∷ xs) m e (inl is) = ap p is ∙ (both (p x) (all_pass p xs) e).0
pass_in p (x ∷ xs) m e (inr h) = pass_in p xs m (both (p x) (all_pass p xs) e).1 h

-- what is found passes
pub found_passes : {A : Type 0} (p : A → Bool) (all : List A) (m : A) → find p all ≡ Some m → p m ≡ true
found_passes p [] m e = absurd cc
found_passes p (x ∷ xs) m e = at (p x) refl e (found_passes p xs m)
  where
    at : (b : Bool) → p x ≡ b → cond b (Some x) (find p xs) ≡ some_of m → (find p xs ≡ Some m → p m ≡ true) → p m ≡ true
    at true is f ih = sym (ap p (some_is x m f)) ∙ is
    at false is f ih = ih f
