use Rattle.transitions.proofs.Keeping.{kept-seen, sound-grown}
use Rattle.transitions.proofs.transitions.Transitions.number_of_term.Goals as goal

pub invariant_of-self : goal.invariant_of-self
invariant_of-self g c = sound-grown c.self.inside.table c.number_of_term.new.self c.self.inside.bodies.items c.self.inside.remembered c.self.inside.depths.items c.self.invariant c.number_of_term.ensures.grown

pub returns-clause-kept : goal.returns-clause-kept
returns-clause-kept g c = kept-seen _ c.self.inside.table c.number_of_term.new.self c.self.inside.bodies.items c.self.view_is c.self.invariant.here c.number_of_term.ensures.grown
