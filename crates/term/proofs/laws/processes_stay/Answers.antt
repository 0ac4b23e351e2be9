use Rattle.term.proofs.Closed.{processes-stay}
use Rattle.term.proofs.laws.processes_stay.Goals as goal

pub returns : goal.returns
returns c = processes-stay
