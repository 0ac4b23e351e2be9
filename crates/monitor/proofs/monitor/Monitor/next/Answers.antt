use Rattle.monitor.proofs.monitor.Monitor.next.Goals as goal

pub returns : goal.returns
returns g c = rw (← c.self.view_is) (c.next.ensures c.self.inside.trace.items c.self.invariant.0)
