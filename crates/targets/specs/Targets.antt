-- The tests and lists that the targets of a process's steps are found by.
use Rattle.std.specs.Prelude.{ℕ, Bool, true, false, List, [], ◌∷◌, ◌++◌, map, nat_eq, ◌&&◌, ◌||◌}
use Rattle.term.specs.Traces.{Pairs, partners}
use Rattle.term.specs.Proc.{Proc, stop, skip, prefix, ext, int, seq, par, hide, ren, intr, name}
use Rattle.term.specs.Steps.{is_skip}

-- whether the process can terminate
abbrev pub ticks : Proc → Bool
ticks stop = false
ticks skip = true
ticks (prefix a P) = false
ticks (ext P Q) = ticks P || ticks Q
ticks (int P Q) = false
ticks (seq P Q) = false
ticks (par A P Q) = is_skip P && is_skip Q
ticks (hide A P) = ticks P
ticks (ren R P) = ticks P
ticks (intr P Q) = ticks P || ticks Q
ticks (name k) = false

-- xs where the test holds, else nothing
abbrev pub where_ {ℓ} : {A : Type ℓ} → Bool → List A → List A
where_ true xs = xs
where_ false xs = []

abbrev pub pairs_of : (Proc → Proc → Proc) → List Proc → List Proc → List Proc
pairs_of f [] ys = []
pairs_of f (x ∷ xs) ys = map (f x) ys ++ pairs_of f xs ys

-- the left sides of the pairs with this right side
abbrev pub origins : Pairs → ℕ → List ℕ
origins [] b = []
origins (p ∷ ps) b = where_ (nat_eq p.1 b) (p.0 ∷ []) ++ origins ps b

abbrev pub is_empty {ℓ} : {A : Type ℓ} → List A → Bool
is_empty [] = true
is_empty (x ∷ xs) = false

-- the events that are related to b
abbrev pub sources : Pairs → ℕ → List ℕ
sources R b = origins R b ++ where_ (is_empty (partners R b)) (b ∷ [])
