use Rattle.keeping.proofs.guarding.Guarding.+unguarded.Given as goal

abbrev pub decreases-unguarded : goal.decreases-unguarded
decreases-unguarded g l = l.number
