use Rattle.std.proofs.Common.{◌≡◌, ◌++◌, map, codes}
use Rattle.std.specs.List.{flat_map, AllByRecursion}
use Rattle.alphabet.specs.EventSets.{members}
use Rattle.alphabet.specs.Channels.{event_count, name_of}
use Rattle.term.specs.Specs.{InSigma}
use Rattle.printing.specs.Printed.{joined}
use Rattle.printing.proofs.processes.put_events.Given as goal

abbrev pub invariant-loop-event : goal.invariant-loop-event
invariant-loop-event g l = record {
  written : l.text.items ++ flat_map (λ u. codes ", " ++ u) (map (name_of l.alphabet) (members l.event-iterator)) ≡ l.fn.text.items ++ joined (codes ", ") (map (name_of l.alphabet) (members l.fn.set));
  below : AllByRecursion (InSigma (event_count l.alphabet)) (members l.event-iterator);
}
