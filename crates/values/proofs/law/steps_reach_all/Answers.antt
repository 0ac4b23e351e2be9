use Rattle.values.proofs.Named.{stands_by_steps}
use Rattle.values.proofs.law.steps_reach_all.Goals as goal

pub returns : goal.returns
returns c = stands_by_steps
