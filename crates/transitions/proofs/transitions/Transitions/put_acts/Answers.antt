use Rattle.transitions.proofs.Keeping.{kept-seen, sound-grown}
use Rattle.transitions.proofs.transitions.Transitions.put_acts.Goals as goal

pub invariant_of-self : goal.invariant_of-self
invariant_of-self g c = sound-grown c.self.inside.table c.put_acts.new.self c.self.inside.bodies.items c.self.inside.remembered c.self.inside.depths.items c.self.invariant c.put_acts.ensures.grown

pub returns-clause-kept : goal.returns-clause-kept
returns-clause-kept g c = kept-seen _ c.self.inside.table c.put_acts.new.self c.self.inside.bodies.items c.self.view_is c.self.invariant.here c.put_acts.ensures.grown
