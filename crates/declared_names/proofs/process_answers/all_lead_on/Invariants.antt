use Rattle.std.proofs.Common.{ℕ, ◌<◌}
use Rattle.declared_names.specs.View.{entries}
use Rattle.declared_names.specs.ProcessAnswers.{MayLeadOn}
use Rattle.declared_names.proofs.process_answers.all_lead_on.Given as goal

abbrev pub invariant-loop-place : goal.invariant-loop-place
invariant-loop-place g l = (i : ℕ) → i < l.place → MayLeadOn (entries l.entries) l.found i
