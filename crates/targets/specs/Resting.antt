-- The processes that have no hidden step, form by form.
use Rattle.std.specs.Prelude.{◌≡◌, ℕ, true, ◌⊎◌}
use Rattle.alphabet.specs.EventSets.{has}
use Rattle.term.specs.Proc.{Proc, stop, skip, prefix, ext, int, seq, par, hide, ren, intr, name}
use Rattle.term.specs.Steps.{Ticks, is_skip}
use Rattle.targets.specs.Offers.{offered}

-- A side of a parallel that can terminate is `SKIP` itself, or else it becomes so by a hidden step.
abbrev pub Settled : Proc → Type 0
Settled P = (is_skip P ≡ true) ⊎ (Ticks P → ⊥)

-- The process has no hidden step.
abbrev pub Resting : Proc → Type 0
Resting stop = Unit {0}
Resting skip = Unit {0}
Resting (prefix a P) = Unit {0}
Resting (ext P Q) = Resting P × Resting Q
Resting (int P Q) = ⊥
Resting (seq P Q) = Resting P × (Ticks P → ⊥)
Resting (par A P Q) = (Resting P × Settled P) × (Resting Q × Settled Q)
Resting (hide A P) = Resting P × ((a : ℕ) → has A a ≡ true → offered P a ≡ true → ⊥)
Resting (ren R P) = Resting P
Resting (intr P Q) = Resting P × Resting Q
Resting (name k) = ⊥
