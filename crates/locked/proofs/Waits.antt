-- The least of the places that are waited for.
use Rattle.std.proofs.Common.{◌≡◌, ◌≢◌, ◌==◌, ℕ, min, Bool, true, false, cond, List, ◌∷◌, refl, ap, arith}
use Rattle.std.proofs.lemmas.Bool.Decides.{nat_tests}
use Rattle.locked.specs.Waits.{first_place}

first_by : (place w : ℕ) (ws : List ℕ) (b : Bool) → (w == 0) ≡ b → first_place place (w ∷ ws) ≡ first_place (cond b place (min place w)) ws
first_by place w ws b is = ap (λ c. first_place (cond c place (min place w)) ws) is

pub first_none : (place w : ℕ) (ws : List ℕ) → w ≡ 0 → first_place place (w ∷ ws) ≡ first_place place ws
first_none place w ws is = first_by place w ws true (ap (λ n. n == 0) is)

some_by : (place w : ℕ) (ws : List ℕ) (b : Bool) → (w == 0) ≡ b → w ≢ 0 → first_place place (w ∷ ws) ≡ first_place (min place w) ws
some_by place w ws true is not = absurd (not (grind (arith, nat_tests)))
some_by place w ws false is not = first_by place w ws false is

pub first_some : (place w : ℕ) (ws : List ℕ) → w ≢ 0 → first_place place (w ∷ ws) ≡ first_place (min place w) ws
first_some place w ws not = some_by place w ws (w == 0) refl not
