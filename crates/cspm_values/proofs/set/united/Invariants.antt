use Rattle.std.proofs.Common.{◌≡◌, [], drop}
use Rattle.cspm_values.specs.Sets.{united}
use Rattle.cspm_values.specs.View.{values}
use Rattle.cspm_values.proofs.set.united.Given as goal

abbrev pub invariant-loop-set : goal.invariant-loop-set
invariant-loop-set g l = united (values l.all.keys) (values (drop l.set-index l.sets)) ≡ united [] (values l.sets)
