use Rattle.std.proofs.Common.{◌+◌, ◌-◌, ◌*◌}
use Rattle.term.specs.Proc.{proc}
use Rattle.term.specs.Sizes.{size}
use Rattle.nodes.proofs.table.Table.+number_of_term.Given as goal

abbrev pub decreases-number_of_term : goal.decreases-number_of_term
decreases-number_of_term g l = 4 * size (proc l.term.now)

abbrev pub decreases-number_of_two : goal.decreases-number_of_two
decreases-number_of_two g l = 4 * size (proc l.term.now) - 1

abbrev pub decreases-number_of_one : goal.decreases-number_of_one
decreases-number_of_one g l = 4 * size (proc l.term.now) - 1

abbrev pub decreases-number_of_prefix : goal.decreases-number_of_prefix
decreases-number_of_prefix g l = 4 * size (proc l.then.now) + 1

abbrev pub decreases-number_over : goal.decreases-number_over
decreases-number_over g l = 4 * (size (proc l.left.now) + size (proc l.right.now)) + 2

abbrev pub decreases-number_of_par : goal.decreases-number_of_par
decreases-number_of_par g l = 4 * (size (proc l.left.now) + size (proc l.right.now)) + 2

abbrev pub decreases-number_of_hide : goal.decreases-number_of_hide
decreases-number_of_hide g l = 4 * size (proc l.part.now) + 1

abbrev pub decreases-number_of_ren : goal.decreases-number_of_ren
decreases-number_of_ren g l = 4 * size (proc l.part.now) + 1

abbrev pub decreases-numbers_of : goal.decreases-numbers_of
decreases-numbers_of g l = 4 * (size (proc l.left.now) + size (proc l.right.now)) + 1
