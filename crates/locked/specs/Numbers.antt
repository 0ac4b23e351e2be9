-- The numbers of seats.
use Rattle.std.specs.Prelude.{◌≡◌, ℕ, suc, max, ◌⊎◌, List, [], ◌∷◌, ◌++◌, Bool}

-- The last of the names, which are the numbers from 1 on; by its number, whether the seat of a name has a connection; and the numbers that
-- were given to seats and never used, which are given again.
pub record NamesView : Type 0 where
  pub last : ℕ
  pub taken : List Bool
  pub spare : List ℕ

-- A seat's number, by the last of the names, the greatest number so far and the spare ones, before and after: one of the spare ones, which is
-- then spare no more; or one more than the greatest and than the names, which is then the greatest.
abbrev pub IsNumber : ℕ → ℕ → List ℕ → ℕ → List ℕ → ℕ → Type 0
IsNumber names greatest spare greatest_now spare_now seat =
    ((spare ≡ spare_now ++ seat ∷ []) × (greatest_now ≡ greatest))
    ⊎ ((seat ≡ suc (max greatest names)) × (greatest_now ≡ seat) × ((gone : List ℕ) × (spare ≡ spare_now ++ gone)))
