use Rattle.cspm_values.proofs.Sorted.{same_sets}
use Rattle.cspm_values.proofs.law.sets_of_the_same.Goals as goal

pub returns : goal.returns
returns g = same_sets
