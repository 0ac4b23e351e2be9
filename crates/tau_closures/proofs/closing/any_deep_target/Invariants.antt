use Rattle.std.proofs.Common.{◌≡◌, take}
use Rattle.term.specs.Limits.{HasDeep}
use Rattle.term.specs.Proc.{bodies_of}
use Rattle.targets.specs.declared.labels.Label.TheVariants as label
use Rattle.nodes.specs.Looks.{look}
use Rattle.tau_closures.specs.Closing.{TargetOf}
use Rattle.tau_closures.proofs.closing.any_deep_target.Given as goal

abbrev pub invariant-loop-number : goal.invariant-loop-number
invariant-loop-number g l = record {
  same : l.states ≡ l.fn.states;
  none : HasDeep (TargetOf (bodies_of l.fn.states.all.bodies) (look l.fn.states.all.table.processes (take l.number-index l.numbers)) label.Tau) → ⊥;
}
