use Rattle.term.specs.Proc.{bodies_of}
use Rattle.targets.specs.Labels.{Step}
use Rattle.nodes.specs.Shapes.{at}
use Rattle.transitions.proofs.Asking.{none-in}
use Rattle.transitions.proofs.transitions.Transitions.put_new_targets.Goals as goal

pub returns-then-not-may_step-clause-targets : goal.returns-then-not-may_step-clause-targets
returns-then-not-may_step-clause-targets g c =
    let s = c.args.self.now in
    none-in s.table (Step (bodies_of s.bodies) (at s.table.processes c.args.number) c.args.label) c.args.most c.args.into.now.items c.requires.empty (c.may_step.ensures c.if-not-may_step.true)
