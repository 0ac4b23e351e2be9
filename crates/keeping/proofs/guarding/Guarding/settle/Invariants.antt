use Rattle.keeping.specs.Guarding.{GoesOn}
use Rattle.keeping.proofs.guarding.Guarding.settle.Given as goal

abbrev pub invariant-loop : goal.invariant-loop
invariant-loop g l = GoesOn l.fn.self l.self
