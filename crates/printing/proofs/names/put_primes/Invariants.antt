use Rattle.std.proofs.Common.{◌≡◌}
use Rattle.printing.specs.Names.{primed}
use Rattle.printing.proofs.names.put_primes.Given as goal

abbrev pub invariant-loop : goal.invariant-loop
invariant-loop g l = l.text.items ≡ primed l.fn.text.items l.counter
