-- The sets that a process hides.
use Rattle.std.specs.Prelude.{◌≡◌, ◌<◌, ℕ, true}
use Rattle.alphabet.specs.EventSets.{has}
use Rattle.term.specs.Proc.{Proc, stop, skip, prefix, ext, int, seq, par, hide, ren, intr, name}

-- Every set that the process hides has events below n alone.
abbrev pub SetsBelow : ℕ → Proc → Type 0
SetsBelow n stop = Unit {0}
SetsBelow n skip = Unit {0}
SetsBelow n (prefix a P) = SetsBelow n P
SetsBelow n (ext P Q) = SetsBelow n P × SetsBelow n Q
SetsBelow n (int P Q) = SetsBelow n P × SetsBelow n Q
SetsBelow n (seq P Q) = SetsBelow n P × SetsBelow n Q
SetsBelow n (par A P Q) = SetsBelow n P × SetsBelow n Q
SetsBelow n (hide A P) = ((a : ℕ) → has A a ≡ true → a < n) × SetsBelow n P
SetsBelow n (ren R P) = SetsBelow n P
SetsBelow n (intr P Q) = SetsBelow n P × SetsBelow n Q
SetsBelow n (name k) = Unit {0}
