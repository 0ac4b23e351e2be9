use Rattle.std.proofs.Common.{◌-◌, length}
use Rattle.alphabet.specs.EventParts.{parts_of}
use Rattle.event_phrases.specs.View.{listed}
use Rattle.script.proofs.Copies.{AreFirst, value_count}
use Rattle.script.proofs.rows.values_of.Given as goal

abbrev pub invariant-loop-value : goal.invariant-loop-value
invariant-loop-value g l = AreFirst (parts_of l.alphabet l.event) (length l.values.items) (listed l.values.items)

abbrev pub decreases-loop-value : goal.decreases-loop-value
decreases-loop-value g l = value_count (parts_of l.alphabet l.event) - length l.values.items
