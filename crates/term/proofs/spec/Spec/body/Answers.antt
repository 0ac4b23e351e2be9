use Rattle.std.proofs.Common.{subst, ap}
use Rattle.term.specs.Specs.{IsClosed}
use Rattle.term.proofs.Bodies.{body-is}
use Rattle.term.proofs.spec.Spec.body.Goals as goal

pub returns-clause-lies : goal.returns-clause-lies
returns-clause-lies g c =
    let closed = subst IsClosed c.self.view_is c.self.invariant in
    body-is c.args.self.now c.self.inside.bodies.items c.args.number c.index.result.now closed (ap (λ s. s.bodies) c.self.view_is) c.requires c.index.ensures
