use Rattle.std.proofs.Common.{◌≡◌, drop}
use Rattle.cspm_values.specs.Sets.{shared}
use Rattle.cspm_values.specs.View.{values}
use Rattle.cspm_values.proofs.set.shared.Given as goal

abbrev pub invariant-loop-set : goal.invariant-loop-set
invariant-loop-set g l = shared (values l.kept.items) (values (drop l.set-index l.sets)) ≡ shared (values l.fn.values) (values l.sets)
