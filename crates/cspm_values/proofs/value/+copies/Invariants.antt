use Rattle.std.proofs.Common.{◌≡◌, take}
use Rattle.cspm_values.specs.View.{values}
use Rattle.cspm_values.proofs.value.+copies.Given as goal

abbrev pub invariant-all_copied-loop-value : goal.invariant-all_copied-loop-value
invariant-all_copied-loop-value g l = values l.copies.items ≡ values (take l.value-index l.all)
