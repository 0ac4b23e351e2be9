-- The events that a process offers.
use Rattle.std.specs.Prelude.{ℕ, Bool, true, false, not, ◌&&◌, ◌||◌, List, [], ◌∷◌, nat_eq}
use Rattle.alphabet.specs.EventSets.{has}
use Rattle.term.specs.Proc.{Proc, stop, skip, prefix, ext, int, seq, par, hide, ren, intr, name}
use Rattle.term.specs.Steps.{Act}
use Rattle.targets.specs.Targets.{sources}

-- The process has a step with this event.
abbrev pub Offers : Proc → ℕ → Type 0
Offers P a = (Q : Proc) × Act P a Q

-- One of these events passes the test.
abbrev pub some_passes : (ℕ → Bool) → List ℕ → Bool
some_passes f [] = false
some_passes f (a ∷ as') = f a || some_passes f as'

-- What a parallel does of an event, from whether its sides do it.
abbrev pub both_or_one : Bool → Bool → Bool → Bool
both_or_one true p q = p && q
both_or_one false p q = p || q

-- Whether the process has a step with this event.
abbrev pub offered : Proc → ℕ → Bool
offered stop a = false
offered skip a = false
offered (prefix b P) a = nat_eq b a
offered (ext P Q) a = offered P a || offered Q a
offered (int P Q) a = false
offered (seq P Q) a = offered P a
offered (par A P Q) a = both_or_one (has A a) (offered P a) (offered Q a)
offered (hide A P) a = offered P a && not (has A a)
offered (ren R P) b = some_passes (offered P) (sources R b)
offered (intr P Q) a = offered P a || offered Q a
offered (name k) a = false
