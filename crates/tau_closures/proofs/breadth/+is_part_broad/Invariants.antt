use Rattle.std.proofs.Common.{◌+◌, ◌*◌, max}
use Rattle.tau_closures.proofs.breadth.+is_part_broad.Given as goal

abbrev pub decreases-is_part_broad : goal.decreases-is_part_broad
decreases-is_part_broad g l = 4 * l.number + 3

abbrev pub decreases-has_broad_part : goal.decreases-has_broad_part
decreases-has_broad_part g l = 4 * l.number + 2

abbrev pub decreases-has_broad_act : goal.decreases-has_broad_act
decreases-has_broad_act g l = 4 * l.number + 1

abbrev pub decreases-has_broad_hid : goal.decreases-has_broad_hid
decreases-has_broad_hid g l = 4 * l.number + 1

abbrev pub decreases-is_either_broad : goal.decreases-is_either_broad
decreases-is_either_broad g l = 4 * max l.p l.q + 4
