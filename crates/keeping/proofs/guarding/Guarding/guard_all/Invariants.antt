use Rattle.keeping.specs.Guarding.{GoesOn}
use Rattle.keeping.proofs.guarding.Guarding.guard_all.Given as goal

abbrev pub invariant-loop-name : goal.invariant-loop-name
invariant-loop-name g l = GoesOn l.fn.self l.self
