use Rattle.std.proofs.Common.{◌+◌, ◌*◌}
use Rattle.denotation.specs.Bodies.{size}
use Rattle.denotation.specs.View.{body}
use Rattle.denotation.proofs.numbering.+numbering.Given as goal

abbrev pub decreases-numbered : goal.decreases-numbered
decreases-numbered g l = 3 * size (body l.draft)

abbrev pub decreases-one : goal.decreases-one
decreases-one g l = 3 * size (body l.draft.value) + 1

abbrev pub decreases-both : goal.decreases-both
decreases-both g l = 3 * (size (body l.first.value) + size (body l.second.value)) + 2
