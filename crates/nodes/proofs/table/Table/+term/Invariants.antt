use Rattle.std.proofs.Common.{◌+◌, ◌*◌, max}
use Rattle.nodes.proofs.table.Table.+term.Given as goal

abbrev pub decreases-term : goal.decreases-term
decreases-term g l = 8 * l.number + 3

abbrev pub decreases-term_of : goal.decreases-term_of
decreases-term_of g l = 8 * l.number + 2

abbrev pub decreases-prefix_term : goal.decreases-prefix_term
decreases-prefix_term g l = 8 * l.p + 5

abbrev pub decreases-term_over : goal.decreases-term_over
decreases-term_over g l = 8 * max l.p l.q + 5

abbrev pub decreases-par_term : goal.decreases-par_term
decreases-par_term g l = 8 * max l.p l.q + 5

abbrev pub decreases-hide_term : goal.decreases-hide_term
decreases-hide_term g l = 8 * l.p + 5

abbrev pub decreases-ren_term : goal.decreases-ren_term
decreases-ren_term g l = 8 * l.p + 5

abbrev pub decreases-boxed_term : goal.decreases-boxed_term
decreases-boxed_term g l = 8 * l.p + 4
