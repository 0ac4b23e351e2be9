use Rattle.declared_names.specs.View.{entries}
use Rattle.declared_names.specs.Standing.{lacking}
use Rattle.declared_names.proofs.search.settle.Given as goal

abbrev pub invariant-loop-new : goal.invariant-loop-new
invariant-loop-new g l = g.L.Learner.reached l.learner l.table

abbrev pub decreases-loop-new : goal.decreases-loop-new
decreases-loop-new g l = lacking g.L.Learner.knows (entries l.entries) l.table
