use Rattle.std.proofs.Common.{◌≡◌, length}
use Rattle.shared.proofs.turns.await_settled.Given as goal

-- there is as much room for verdicts
abbrev pub invariant-loop : goal.invariant-loop
invariant-loop g l = length l.verdicts ≡ length l.fn.verdicts
