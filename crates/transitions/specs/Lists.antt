-- Lists of numbers by key, which are parts of one list.
use Rattle.std.specs.Prelude.{◌≡◌, ◌⊎◌, ℕ, ◌≤◌, List, map, get_or, slice_range, nat_eq, Option, None, Some, option_map}
use Rattle.std.specs.Map.{lookup}

-- The lists of these keys: what stands from one place to another.
abbrev pub listed : List ℕ → List (ℕ × (ℕ × ℕ)) → List (ℕ × List ℕ)
listed ns es = map (λ e. (e.0, slice_range ns e.1.0 e.1.1)) es

-- Each key's places are in order, and no greater than n.
abbrev pub AreWithin : ℕ → List (ℕ × (ℕ × ℕ)) → Type 0
AreWithin n es = (k : ℕ) (p : ℕ × ℕ) → lookup (nat_eq k) es ≡ Some p → (p.0 ≤ p.1) × (p.1 ≤ n)

-- Each key has the list that it had; this one may have these numbers.
abbrev pub MayHave : List (ℕ × List ℕ) → List (ℕ × List ℕ) → ℕ → List ℕ → Type 0
MayHave old new k ns = (x : ℕ) → (lookup (nat_eq x) new ≡ lookup (nat_eq x) old) ⊎ ((x ≡ k) × (lookup (nat_eq x) new ≡ Some ns))

-- ---- by number
-- The lists with these places: what stands from one to another.
abbrev pub listed_by_number : List ℕ → List (Option (ℕ × ℕ)) → List (Option (List ℕ))
listed_by_number ns ps = map (option_map (λ p. slice_range ns p.0 p.1)) ps

-- Each number's places are in order, and no greater than n.
abbrev pub AreAllWithin : ℕ → List (Option (ℕ × ℕ)) → Type 0
AreAllWithin n ps = (k : ℕ) (p : ℕ × ℕ) → get_or ps k None ≡ Some p → (p.0 ≤ p.1) × (p.1 ≤ n)

-- Each number has the places that it had.
abbrev pub KeepsPlaces : List (Option (ℕ × ℕ)) → List (Option (ℕ × ℕ)) → Type 0
KeepsPlaces old new = (x : ℕ) → get_or new x None ≡ get_or old x None

-- Each number has the list that it had; this one may have these numbers.
abbrev pub MayHaveAt : List (Option (List ℕ)) → List (Option (List ℕ)) → ℕ → List ℕ → Type 0
MayHaveAt old new k ns = (x : ℕ) → (get_or new x None ≡ get_or old x None) ⊎ ((x ≡ k) × (get_or new x None ≡ Some ns))
