use Rattle.std.proofs.Common.{◌≡◌, ◌++◌}
use Rattle.alphabet.specs.EventSets.{members}
use Rattle.shown.specs.Nearness.{so_near}
use Rattle.shown.proofs.nearness.add_near.Given as goal

abbrev pub invariant-loop-event : goal.invariant-loop-event
invariant-loop-event g l = l.list.items ++ so_near l.alphabet l.name l.near (members l.event-iterator) ≡ l.fn.list.items ++ so_near l.alphabet l.name l.near (members l.fn.set)
