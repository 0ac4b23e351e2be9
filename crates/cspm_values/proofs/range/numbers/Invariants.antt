use Rattle.std.proofs.Common.{◌≡◌, ◌≤ℤ◌}
use Rattle.std.specs.Int.{int_gap}
use Rattle.cspm_values.specs.Numbers.{numbers_from}
use Rattle.cspm_values.specs.View.{values}
use Rattle.cspm_values.proofs.range.numbers.Given as goal

abbrev pub invariant-loop-next : goal.invariant-loop-next
invariant-loop-next g l = (l.first ≤ℤ l.next) × (l.next ≤ℤ l.last) × (values l.all.items ≡ numbers_from l.first (int_gap l.first l.next))

abbrev pub decreases-loop-next : goal.decreases-loop-next
decreases-loop-next g l = int_gap l.next l.last
