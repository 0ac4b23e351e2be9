use Rattle.std.proofs.Common.{◌≡◌, [], drop}
use Rattle.cspm_values.specs.Sequences.{joined}
use Rattle.cspm_values.specs.View.{values}
use Rattle.cspm_values.proofs.sequence.joined_all.Given as goal

abbrev pub invariant-loop-sequence : goal.invariant-loop-sequence
invariant-loop-sequence g l = joined (values l.all.items) (values (drop l.sequence-index l.sequences)) ≡ joined [] (values l.sequences)
