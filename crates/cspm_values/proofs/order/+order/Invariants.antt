use Rattle.std.proofs.Common.{◌≡◌, ◌≤◌, drop, length, ◌-◌}
use Rattle.cspm_values.specs.Values.{row_of, values_cmp}
use Rattle.cspm_values.specs.View.{value, values}
use Rattle.cspm_values.proofs.Rows.{weight, weights}
use Rattle.cspm_values.proofs.order.+order.Given as goal

abbrev pub decreases-compare : goal.decreases-compare
decreases-compare g l = weight (value l.first.now)

abbrev pub decreases-compare_all : goal.decreases-compare_all
decreases-compare_all g l = weights (row_of (values l.first.now))

abbrev pub invariant-compare_all-loop-index : goal.invariant-compare_all-loop-index
invariant-compare_all-loop-index g l =
    (l.index ≤ length l.first) × (l.index ≤ length l.second)
    × (values_cmp (row_of (values (drop l.index l.first))) (row_of (values (drop l.index l.second))) ≡ values_cmp (row_of (values l.first)) (row_of (values l.second)))

abbrev pub decreases-compare_all-loop-index : goal.decreases-compare_all-loop-index
decreases-compare_all-loop-index g l = length l.first - l.index
