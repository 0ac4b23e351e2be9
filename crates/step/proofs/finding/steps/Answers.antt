use Rattle.term.specs.Proc.{proc, bodies_of}
use Rattle.step.proofs.Whole.{appends}
use Rattle.step.proofs.finding.steps.Goals as goal

pub returns-clause-targets : goal.returns-clause-targets
returns-clause-targets g c =
    appends (bodies_of c.args.spec.now.bodies) (proc c.args.term.now) c.args.label c.args.into.now.items c.append.new.self.items c.in_ok-found.found.items
    c.in_ok-found.ensures.targets c.in_ok-append.ensures.items
