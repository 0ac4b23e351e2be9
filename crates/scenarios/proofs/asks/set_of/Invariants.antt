use Rattle.journal.specs.Reports.{AreEvents}
use Rattle.scenarios.proofs.asks.set_of.Given as goal

abbrev pub invariant-loop-name : goal.invariant-loop-name
invariant-loop-name g l = AreEvents l.alphabet l.set
