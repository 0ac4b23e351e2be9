use Rattle.std.proofs.Common.{◌≡◌, ◌<◌, ℕ, true}
use Rattle.alphabet.specs.EventSets.{has}
use Rattle.term.specs.Traces.{In}
use Rattle.transitions.proofs.events.events_in.Given as goal

abbrev pub invariant-loop-number : goal.invariant-loop-number
invariant-loop-number g l = record {
  only : (a : ℕ) → In a l.events.items → has l.set a ≡ true;
  all : (a : ℕ) → a < l.number → has l.set a ≡ true → In a l.events.items;
}
