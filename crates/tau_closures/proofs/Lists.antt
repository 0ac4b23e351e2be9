-- Parts of lists, and what stands in them.
use Rattle.std.proofs.Common.{◌≡◌, ℕ, zero, suc, ◌+◌, ◌<◌, ◌≤◌, List, [], ◌∷◌, ◌++◌, length, take, drop, get_or, refl, ap, ◌∙◌, arith}
use Rattle.std.proofs.lemmas.List.{drop-append-le, length-take, take_more}
use Rattle.term.specs.Traces.{In, here, there}
use Rattle.term.specs.Proc.{Proc}

pub none-In : {P : Proc} {ps : List Proc} → In P ps → ps ≡ [] → ⊥
none-In here e = cc
none-In (there i) e = cc

-- the member at a place stands in the list
pub In-at : (ps : List Proc) (i : ℕ) (d : Proc) → i < length ps → In (get_or ps i d) ps
In-at [] i d h = absurd (omega arith)
In-at (P ∷ ps) zero d h = here
In-at (P ∷ ps) (suc i) d h = there (In-at ps i d (omega arith))

-- what comes after a place stands in the list
pub In-drop : (n : ℕ) (ps : List Proc) (Q : Proc) → In Q (drop n ps) → In Q ps
In-drop zero ps Q i = i
In-drop (suc n) [] Q i = i
In-drop (suc n) (P ∷ ps) Q i = there (In-drop n ps Q i)

take-In : (n : ℕ) (ps : List Proc) (Q : Proc) → In Q (take n ps) → In Q ps
take-In zero ps Q i = absurd (none-In i refl)
take-In (suc n) [] Q i = i
take-In (suc n) (P ∷ ps) Q here = here
take-In (suc n) (P ∷ ps) Q (there i) = there (take-In n ps Q i)

-- so does what stands between two
pub In-part : (from to : ℕ) (ps : List Proc) (Q : Proc) → In Q (drop from (take to ps)) → In Q (drop from ps)
In-part zero to ps Q i = take-In to ps Q i
In-part (suc n) zero ps Q i = absurd (none-In i refl)
In-part (suc n) (suc m) [] Q i = i
In-part (suc n) (suc m) (P ∷ ps) Q i = In-part n m ps Q i

-- the part between two places, one further
pub part-more : (from i : ℕ) (ps : List Proc) (d : Proc) → from ≤ i → i < length ps → drop from (take (i + 1) ps) ≡ drop from (take i ps) ++ get_or ps i d ∷ []
part-more from i ps d h k =
    ap (drop from) (take_more ps i d k)
    ∙ drop-append-le from (take i ps) (get_or ps i d ∷ []) (omega (arith, length-take i ps))

-- the part from a place to itself
pub part-none : (from : ℕ) (ps : List Proc) → drop from (take from ps) ≡ []
part-none zero ps = refl
part-none (suc n) [] = refl
part-none (suc n) (P ∷ ps) = part-none n ps

-- the member at a place comes after each place up to it
pub drop-In : (from i : ℕ) (ps : List Proc) (d : Proc) → from ≤ i → i < length ps → In (get_or ps i d) (drop from ps)
drop-In zero i ps d h k = In-at ps i d k
drop-In (suc n) i [] d h k = absurd (omega arith)
drop-In (suc n) zero (P ∷ ps) d h k = absurd (omega arith)
drop-In (suc n) (suc i) (P ∷ ps) d h k = drop-In n i ps d (omega arith) (omega arith)
