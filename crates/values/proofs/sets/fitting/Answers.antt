use Rattle.std.proofs.Common.{arith}
use Rattle.syntax.proofs.Failing.{fails_none}
use Rattle.values.proofs.ValueSets.{fits, too_many}
use Rattle.values.proofs.sets.fitting.Goals as goal

pub returns-then-len-gt-SET_LIMIT : goal.returns-then-len-gt-SET_LIMIT
returns-then-len-gt-SET_LIMIT g c = fails_none c.fault.result _ (too_many c.args.set.keys (omega arith))

pub returns : goal.returns
returns g c = fits c.args.set.keys (omega arith)
