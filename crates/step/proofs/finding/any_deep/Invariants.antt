use Rattle.std.proofs.Common.{◌≡◌, drop}
use Rattle.nodes.specs.Looks.{look}
use Rattle.step.specs.Labels.{some_deep}
use Rattle.step.proofs.finding.any_deep.Given as goal

abbrev pub invariant-loop-number : goal.invariant-loop-number
invariant-loop-number g l = some_deep (look l.all.table.processes (drop l.number-index l.numbers)) ≡ some_deep (look l.all.table.processes l.numbers)
