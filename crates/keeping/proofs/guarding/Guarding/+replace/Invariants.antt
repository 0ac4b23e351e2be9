use Rattle.std.proofs.Common.{◌+◌, ◌*◌, max}
use Rattle.keeping.proofs.guarding.Guarding.+replace.Given as goal

abbrev pub decreases-replaced : goal.decreases-replaced
decreases-replaced g l = 2 * l.number

abbrev pub decreases-replaced_both : goal.decreases-replaced_both
decreases-replaced_both g l = 2 * max l.p l.q + 1
