use Rattle.tau_closures.proofs.ByNames.{plain-belongs}
use Rattle.tau_closures.proofs.laws.what_plain_sets_belong_to.Goals as goal

pub returns : goal.returns
returns c = λ s members u e. plain-belongs s e members u
