use Rattle.std.proofs.Common.{take}
use Rattle.term.specs.Limits.{HasDeep}
use Rattle.nodes.specs.Looks.{look}
use Rattle.tau_closures.specs.Closing.{Among}
use Rattle.tau_closures.proofs.kept.any_deep.Given as goal

abbrev pub invariant-loop-number : goal.invariant-loop-number
invariant-loop-number g l = HasDeep (Among (look l.states.all.table.processes (take l.number-index l.numbers))) → ⊥
