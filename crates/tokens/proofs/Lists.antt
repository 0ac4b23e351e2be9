-- Runs of bytes at the front of a text.
use Rattle.std.proofs.Common.{◌≡◌, ℕ, suc, ◌+◌, ◌≤◌, List, [], ◌∷◌, ◌++◌, Bool, true, false, cond, length, take, refl, arith, one-add}
use Rattle.std.proofs.lemmas.List.{length-take}
use Rattle.std.specs.List.{prefix_len}
use Rattle.tokens.specs.Text.{All}
use Rattle.tokens.specs.Scanning.{run}

pub prefix-le : (p : ℕ → Bool) (xs : List ℕ) → prefix_len p xs ≤ length xs
prefix-le p [] = omega arith
prefix-le p (x ∷ xs) = at (p x) (prefix-le p xs)
  where
    at : (b : Bool) → prefix_len p xs ≤ length xs → cond b (1 + prefix_len p xs) 0 ≤ suc (length xs)
    at true h = omega arith
    at false h = omega arith

pub run_is : (p : ℕ → Bool) (xs : List ℕ) → run p xs ≡ prefix_len p xs
run_is p xs = omega (arith, length-take (prefix_len p xs) xs, prefix-le p xs)

pub run-le : (p : ℕ → Bool) (xs : List ℕ) → run p xs ≤ length xs
run-le p xs = omega (arith, run_is p xs, prefix-le p xs)

-- what passes at the front, and what then follows
pub prefix_on : (p : ℕ → Bool) (a b : List ℕ) → All p a → prefix_len p (a ++ b) ≡ length a + prefix_len p b
prefix_on p [] b h = omega arith
prefix_on p (x ∷ a) b h = rw h.0 (omega (arith, prefix_on p a b h.1))

pub prefix_stops : (p : ℕ → Bool) (x : ℕ) (xs : List ℕ) → p x ≡ false → prefix_len p (x ∷ xs) ≡ 0
prefix_stops p x xs h = rw h refl

passes_at : (p : ℕ → Bool) (x : ℕ) (xs : List ℕ) (b : Bool) → p x ≡ b → All p (take (prefix_len p xs) xs) → All p (take (cond b (1 + prefix_len p xs) 0) (x ∷ xs))
passes_at p x xs true e h = rw one-add (e, h)
passes_at p x xs false e h = tt

pub prefix_passes : (p : ℕ → Bool) (xs : List ℕ) → All p (take (prefix_len p xs) xs)
prefix_passes p [] = tt
prefix_passes p (x ∷ xs) = passes_at p x xs (p x) refl (prefix_passes p xs)
