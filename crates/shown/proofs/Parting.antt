-- Texts that are cut at their dots.
use Rattle.std.proofs.Common.{◌≡◌, ◌≢◌, ◌==◌, ℕ, List, [], ◌∷◌, ◌++◌, true, false, Bool, ◌||◌, refl, ◌∙◌, ap}
use Rattle.std.specs.List.{list_any, onto_first}
use Rattle.std.proofs.lemmas.Bool.{ne_eqb}
use Rattle.std.proofs.lemmas.List.Splits.{slice_split-cons_no, slice_split-cons_yes}
use Rattle.shown.specs.Nearness.{has_part, parts}
use Rattle.shown.specs.Parting.{LacksDot}

other_byte : (b : ℕ) → b ≢ 46 → (b == 46) ≡ false
other_byte b other = ne_eqb b 46 other

pub parts_none : (name : List ℕ) → LacksDot name → parts name ≡ name ∷ []
parts_none [] plain = refl
parts_none (b ∷ bs) (other, plain) =
    slice_split-cons_no (λ b. b == 46) b bs (other_byte b other) ∙ ap (onto_first b) (parts_none bs plain)

pub parts_at : (name others : List ℕ) → LacksDot name → parts (name ++ 46 ∷ others) ≡ name ∷ parts others
parts_at [] others plain = slice_split-cons_yes (λ b. b == 46) 46 others refl
parts_at (b ∷ bs) others (other, plain) =
    slice_split-cons_no (λ b. b == 46) b (bs ++ 46 ∷ others) (other_byte b other) ∙ ap (onto_first b) (parts_at bs others plain)

pub parts_cut : (text name others : List ℕ) → LacksDot name → text ≡ name ++ 46 ∷ others → parts text ≡ name ∷ parts others
parts_cut text name others plain is = ap parts is ∙ parts_at name others plain

or_false : (a : Bool) → (a || false) ≡ a
or_false true = refl
or_false false = refl

-- a test of the parts, where the first passes
pub any_first : (p : List ℕ → Bool) (text name others : List ℕ) → LacksDot name → text ≡ name ++ 46 ∷ others → p name ≡ true → list_any p (parts text) ≡ true
any_first p text name others plain is passes = ap (list_any p) (parts_cut text name others plain is) ∙ ap (λ b. b || list_any p (parts others)) passes

-- where it doesn't
pub any_later : (p : List ℕ → Bool) (text name others : List ℕ) → LacksDot name → text ≡ name ++ 46 ∷ others → p name ≡ false → list_any p (parts text) ≡ list_any p (parts others)
any_later p text name others plain is fails = ap (list_any p) (parts_cut text name others plain is) ∙ ap (λ b. b || list_any p (parts others)) fails

-- and where there is one part
pub any_last : (p : List ℕ → Bool) (text : List ℕ) → LacksDot text → list_any p (parts text) ≡ p text
any_last p text plain = ap (list_any p) (parts_none text plain) ∙ or_false (p text)

-- there is nothing in common with nothing
pub none_common : (ps : List (List ℕ)) → list_any (has_part []) ps ≡ false
none_common [] = refl
none_common (p ∷ ps) = none_common ps
