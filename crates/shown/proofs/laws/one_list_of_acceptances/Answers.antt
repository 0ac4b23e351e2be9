use Rattle.shown.proofs.OneList.{one_list}
use Rattle.shown.proofs.laws.one_list_of_acceptances.Goals as goal

pub returns : goal.returns
returns c = one_list
