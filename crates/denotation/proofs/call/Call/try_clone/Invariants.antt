use Rattle.std.proofs.Common.{◌≡◌, take}
use Rattle.event_phrases.specs.View.{listed}
use Rattle.denotation.proofs.call.Call.try_clone.Given as goal

abbrev pub invariant-loop-value : goal.invariant-loop-value
invariant-loop-value g l = listed l.arguments.items ≡ listed (take l.value-index l.self.arguments.items)
