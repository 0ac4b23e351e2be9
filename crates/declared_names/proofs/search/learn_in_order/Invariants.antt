use Rattle.declared_names.proofs.search.learn_in_order.Given as goal

abbrev pub invariant-loop-place : goal.invariant-loop-place
invariant-loop-place g l = g.L.Learner.reached l.learner l.table
