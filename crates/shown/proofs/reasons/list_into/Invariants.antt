use Rattle.std.proofs.Common.{◌≡◌, ◌++◌}
use Rattle.alphabet.specs.EventSets.{members}
use Rattle.shown.proofs.reasons.list_into.Given as goal

abbrev pub invariant-loop-event : goal.invariant-loop-event
invariant-loop-event g l = l.list.items ++ members l.event-iterator ≡ l.fn.list.items ++ members l.fn.set
