-- Sides of a parallel and first parts of a sequence, by the test whether they can terminate.
use Rattle.std.proofs.Common.{◌≡◌, Bool, true, false, not, inl, inr, refl, sym, ◌↔◌, IsTrue}
use Rattle.term.specs.Proc.{Proc}
use Rattle.term.specs.Steps.{is_skip, Ticks}
use Rattle.term.proofs.Bools.{not-both}
use Rattle.targets.specs.Targets.{ticks}
use Rattle.targets.specs.Resting.{Settled, Resting}
use Rattle.targets.proofs.Ticking.{ticks-Ticks, Ticks-ticks}

pub no_tick : (P : Proc) (b : Bool) → b ≡ ticks P → IsTrue (not b) ↔ (Ticks P → ⊥)
no_tick P true e = ((λ t. absurd (cc)), (λ n. absurd (n (ticks-Ticks P (sym e)))))
no_tick P false e = ((λ t d. not-both (Ticks-ticks d) (sym e)), (λ n. refl))

pub settled-by : (P : Proc) (b : Bool) → is_skip P ≡ false → b ≡ ticks P → IsTrue (not b) ↔ Settled P
settled-by P b s e = ((λ t. inr ((no_tick P b e).0 t)), from)
  where
    from : Settled P → IsTrue (not b)
    from (inl k) = absurd (not-both k s)
    from (inr n) = (no_tick P b e).1 n

pub seq-rests : (P : Proc) (r b : Bool) → r ≡ true → IsTrue r ↔ Resting P → b ≡ ticks P → IsTrue (not b) ↔ (Resting P × (Ticks P → ⊥))
seq-rests P r b k says e = ((λ t. (says.0 k, (no_tick P b e).0 t)), (λ s. (no_tick P b e).1 s.1))
