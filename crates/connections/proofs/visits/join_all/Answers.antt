use Rattle.std.proofs.Common.{arith}
use Rattle.std.proofs.lemmas.List.{nil_from_length}
use Rattle.connections.proofs.visits.join_all.Goals as goal

pub returns-clause-none : goal.returns-clause-none
returns-clause-none g c =
    let long = c.loop-left.invariant.long in
    let last = c.loop-left-test.false in
    nil_from_length c.loop-left.hall.running.items (omega (arith, long, last))
