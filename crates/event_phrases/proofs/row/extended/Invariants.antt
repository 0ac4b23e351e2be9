use Rattle.std.proofs.Common.{◌≡◌, ◌++◌, take}
use Rattle.event_phrases.specs.View.{listed}
use Rattle.event_phrases.proofs.row.extended.Given as goal

abbrev pub invariant-loop-value : goal.invariant-loop-value
invariant-loop-value g l = listed l.values.items ≡ listed l.fn.values.items ++ listed (take l.value-index l.more)
