use Rattle.term.specs.Proc.{proc}
use Rattle.term.specs.Specs.{IsProcessOf}
use Rattle.part_scenarios.proofs.steps.hidden.Given as goal

abbrev pub invariant-loop : goal.invariant-loop
invariant-loop l = IsProcessOf l.spec (proc l.term)
