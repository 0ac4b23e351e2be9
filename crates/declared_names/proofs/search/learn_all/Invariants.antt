use Rattle.declared_names.specs.View.{entries}
use Rattle.declared_names.specs.Standing.{LearnsFirst}
use Rattle.declared_names.proofs.search.learn_all.Given as goal

abbrev pub invariant-loop-place : goal.invariant-loop-place
invariant-loop-place g l = LearnsFirst g.L.Learner.knows (g.L.Learner.reached l.learner) (g.L.Learner.settled l.learner) (entries l.entries) l.fn.table l.table l.any l.place
