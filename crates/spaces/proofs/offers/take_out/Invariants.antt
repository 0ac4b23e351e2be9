use Rattle.std.proofs.Common.{ℕ, ◌-◌, ◌<◌, ◌⊎◌, length, get_or}
use Rattle.alphabet.specs.EventSets.{Set}
use Rattle.term.specs.Traces.{In}
use Rattle.spaces.specs.Acceptances.{IsPart}
use Rattle.spaces.proofs.offers.take_out.Given as goal

abbrev pub invariant-loop-place : goal.invariant-loop-place
invariant-loop-place g l = record {
  only : (O : Set) → In O l.from.items → In O l.fn.from.items;
  kept : (O : Set) → In O l.fn.from.items → In O l.from.items ⊎ IsPart l.set O;
  out : (k : ℕ) (d : Set) → k < l.place → IsPart l.set (get_or l.from.items k d) → ⊥;
}

abbrev pub decreases-loop-place : goal.decreases-loop-place
decreases-loop-place g l = length l.from.items - l.place
