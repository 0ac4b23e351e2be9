use Rattle.std.proofs.Common.{◌≡◌, take}
use Rattle.targets.specs.Targets.{origins}
use Rattle.transitions.proofs.events.sources_of.Given as goal

abbrev pub invariant-loop-pair : goal.invariant-loop-pair
invariant-loop-pair g l = l.events.items ≡ origins (take l.pair-index l.pairs) l.event
