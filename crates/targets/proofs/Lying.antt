-- What a process of a specification hides.
use Rattle.std.proofs.Common.{ℕ, ◌≤◌, arith}
use Rattle.alphabet.specs.declared.events.Event.TheVariants.{Of as ev}
use Rattle.term.specs.Proc.{Proc, stop, skip, prefix, ext, int, seq, par, hide, ren, intr, name}
use Rattle.term.specs.Specs.{LiesIn}
use Rattle.targets.specs.HiddenSets.{SetsBelow}

pub lies-small : (n m : ℕ) → n ≤ 256 → (P : Proc) → LiesIn n m P → SetsBelow 256 P
lies-small n m s stop l = tt
lies-small n m s skip l = tt
lies-small n m s (prefix a P) l = lies-small n m s P l.1
lies-small n m s (ext P Q) l = (lies-small n m s P l.0, lies-small n m s Q l.1)
lies-small n m s (int P Q) l = (lies-small n m s P l.0, lies-small n m s Q l.1)
lies-small n m s (seq P Q) l = (lies-small n m s P l.0, lies-small n m s Q l.1)
lies-small n m s (par A P Q) l = (lies-small n m s P l.1, lies-small n m s Q l.2)
lies-small n m s (hide A P) l = ((λ a y. let h = l.0 (ev a) y in omega arith), lies-small n m s P l.1)
lies-small n m s (ren R P) l = lies-small n m s P l.1
lies-small n m s (intr P Q) l = (lies-small n m s P l.0, lies-small n m s Q l.1)
lies-small n m s (name k) l = tt
