-- What is known of a process.
use Rattle.std.specs.Prelude.{◌≡◌, ℕ, ◌<◌, ◌-◌, ◌^◌, min, false, ◌↔◌, IsTrue, List, length, get_or}
use Rattle.alphabet.specs.EventSets.{has, member}
use Rattle.term.specs.Events.{tick}
use Rattle.term.specs.Proc.{Proc, stop}
use Rattle.term.specs.Steps.{is_skip}
use Rattle.term.specs.Sizes.{depth}
use Rattle.targets.specs.Offers.{offered}
use Rattle.targets.specs.Targets.{ticks}
use Rattle.targets.specs.Resting.{Resting}
use Rattle.nodes.specs.declared.facts.Facts.{Facts}

-- The facts are those of P.
pub record IsKnown (f : Facts) (P : Proc) : Type 0 where
  pub depth_is : f.depth ≡ min (depth P) (2 ^ 32 - 1)
  pub offers_are : (a : ℕ) → has f.offers a ≡ offered P a
  pub no_tick : member f.offers tick ≡ false
  pub rests_is : IsTrue f.rests ↔ Resting P
  pub ticks_is : f.ticks ≡ ticks P
  pub skip_is : f.skip ≡ is_skip P

-- The facts by number are those of the processes.
abbrev pub AllKnown : List Facts → List Proc → Type 0
AllKnown fs ps = (k : ℕ) (d : Facts) → k < length fs → IsKnown (get_or fs k d) (get_or ps k stop)
