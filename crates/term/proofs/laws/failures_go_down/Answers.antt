use Rattle.term.proofs.Consequences.{failure-trace, failure-less}
use Rattle.term.proofs.laws.failures_go_down.Goals as goal

pub returns : goal.returns
returns c = record { trace = failure-trace; subset = failure-less }
