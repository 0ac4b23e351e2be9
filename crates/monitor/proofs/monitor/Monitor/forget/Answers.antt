use Rattle.monitor.proofs.monitor.Monitor.forget.Goals as goal

pub invariant_of-self : goal.invariant_of-self
invariant_of-self g c = (c.in-Ok.ensures.same c.self.inside.trace.items c.self.invariant.0, c.self.invariant.1)
