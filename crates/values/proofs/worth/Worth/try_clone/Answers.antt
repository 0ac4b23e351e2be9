use Rattle.std.proofs.Common.{ap, sym, ◌∙◌}
use Rattle.values.specs.Worths.{many}
use Rattle.values.specs.View.{worth}
use Rattle.values.proofs.ValueSets.{same_values}
use Rattle.values.proofs.worth.Worth.try_clone.Goals as goal

pub returns-in_ok-clone-in-Many : goal.returns-in_ok-clone-in-Many
returns-in_ok-clone-in-Many g c = ap many (same_values c.in-Many.set.keys c.in_ok-clone-in-Many.field-0.keys c.in_ok-clone-in-Many.ensures.cases) ∙ ap worth (sym c.in-Many.is)
