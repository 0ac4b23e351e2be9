use Rattle.spaces.proofs.Entering.{sound-new}
use Rattle.spaces.proofs.found.FoundSets.new.Goals as goal

pub invariant_of-result : goal.invariant_of-result
invariant_of-result g c = sound-new c.args.spec c.without_bodies.result c.new.result.entries c.bodies-bodies.ensures.closed c.new.ensures.empty
