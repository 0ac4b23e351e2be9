use Rattle.std.proofs.Common.{◌≡◌, ◌≤◌, length, map, take}
use Rattle.values.specs.Tables.{input, last_of}
use Rattle.values.proofs.input.last_value.Given as goal

abbrev pub invariant-loop-left : goal.invariant-loop-left
invariant-loop-left g l = (last_of (map input (take l.left l.inputs)) l.name ≡ last_of (map input l.inputs) l.name) × (l.left ≤ length l.inputs)

abbrev pub decreases-loop-left : goal.decreases-loop-left
decreases-loop-left g l = l.left
