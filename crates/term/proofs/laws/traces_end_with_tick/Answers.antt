use Rattle.term.proofs.Consequences.{tick-last, trace-begins}
use Rattle.term.proofs.laws.traces_end_with_tick.Goals as goal

pub returns : goal.returns
returns c = record { last = tick-last; begins = trace-begins }
