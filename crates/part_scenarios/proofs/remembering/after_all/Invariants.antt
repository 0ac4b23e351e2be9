use Rattle.spaces.specs.Spaces.{IsSetOf}
use Rattle.part_scenarios.proofs.remembering.after_all.Given as goal

abbrev pub invariant-loop-name : goal.invariant-loop-name
invariant-loop-name l =
    (goal.iterator-loop-name).can_next l.name-iterator ×
    (goal.iterator-loop-name).is_finite l.name-iterator ×
    IsSetOf l.space l.set
