use Rattle.std.proofs.Common.{◌≡◌, ◌++◌}
use Rattle.shown.specs.Names.{names_text}
use Rattle.shown.proofs.names.put_names.Given as goal

abbrev pub invariant-loop-event : goal.invariant-loop-event
invariant-loop-event g l = l.text.items ++ names_text l.alphabet l.event-iterator ≡ l.fn.text.items ++ names_text l.alphabet l.fn.set
