use Rattle.std.proofs.Common.{ap, map}
use Rattle.tau_closures.specs.Looks.{look}
use Rattle.spaces.specs.Found.{shown}
use Rattle.spaces.proofs.Remembering.{memory-new}
use Rattle.spaces.proofs.space.Space.new.Goals as goal

pub invariant_of-result : goal.invariant_of-result
invariant_of-result g c = memory-new (shown c.new.result) c.new-2.result.entries c.new-2.ensures.empty

pub returns-clause-empty : goal.returns-clause-empty
returns-clause-empty g c = ap (map (look c.new.result.table.processes)) c.new.ensures.empty
