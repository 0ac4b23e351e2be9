use Rattle.std.proofs.Common.{◌≡◌}
use Rattle.scenarios.proofs.asks.accepted.Given as goal

abbrev pub invariant-loop : goal.invariant-loop
invariant-loop g l = l.session.spec ≡ l.initial.session.spec
