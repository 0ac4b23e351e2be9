use Rattle.declared_names.specs.View.{entries}
use Rattle.declared_names.specs.ProcessAnswers.{AreFound}
use Rattle.declared_names.proofs.process_answers.find_in_order.Given as goal

abbrev pub invariant-loop-place : goal.invariant-loop-place
invariant-loop-place g l = AreFound (entries l.entries) l.found.items
