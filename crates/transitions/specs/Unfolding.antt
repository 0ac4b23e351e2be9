-- How deep a process gets where one of its names becomes its body.
use Rattle.std.specs.Prelude.{◌≡◌, ℕ, zero, suc, ◌<◌, ◌-◌, ◌^◌, min, max, List, length, get_or}
use Rattle.term.specs.Proc.{Proc, stop, skip, prefix, ext, int, seq, par, hide, ren, intr, name}
use Rattle.term.specs.Sizes.{depth}
use Rattle.nodes.specs.Shapes.{at}

-- The depth of an operator over a part of depth n and another of depth m; 0 where n is.
abbrev pub beside : ℕ → ℕ → ℕ
beside zero m = 0
beside (suc n) m = suc (max (suc n) m)

-- The depth of the deepest process that P becomes by a hidden step that puts a body in its name's place; 0 where there is
-- none.
abbrev pub unfolded : (ℕ → Proc) → Proc → ℕ
unfolded B stop = 0
unfolded B skip = 0
unfolded B (prefix a P) = 0
unfolded B (ext P Q) = max (beside (unfolded B P) (depth Q)) (beside (unfolded B Q) (depth P))
unfolded B (int P Q) = 0
unfolded B (seq P Q) = beside (unfolded B P) (depth Q)
unfolded B (par A P Q) = max (beside (unfolded B P) (depth Q)) (beside (unfolded B Q) (depth P))
unfolded B (hide A P) = beside (unfolded B P) 0
unfolded B (ren R P) = beside (unfolded B P) 0
unfolded B (intr P Q) = max (beside (unfolded B P) (depth Q)) (beside (unfolded B Q) (depth P))
unfolded B (name k) = depth (B k)

-- The greatest number of 32 bits in the place of greater ones.
abbrev pub capped : ℕ → ℕ
capped n = min n (2 ^ 32 - 1)

-- These are the depths of the first processes, by number.
abbrev pub AreUnfolded : (ℕ → Proc) → List Proc → List ℕ → Type 0
AreUnfolded B ps ds = (k d : ℕ) → k < length ds → get_or ds k d ≡ capped (unfolded B (at ps k))
