use Rattle.std.proofs.Common.{◌≡◌, map, take}
use Rattle.term.specs.Proc.{proc}
use Rattle.nodes.specs.Looks.{look}
use Rattle.step.proofs.finding.terms_of.Given as goal

abbrev pub invariant-loop-number : goal.invariant-loop-number
invariant-loop-number g l = map proc l.found.items ≡ look l.all.table.processes (take l.number-index l.numbers)
