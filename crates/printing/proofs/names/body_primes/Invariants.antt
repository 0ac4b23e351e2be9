use Rattle.std.proofs.Common.{◌≡◌, ◌-◌, map}
use Rattle.std.specs.List.{range_with_len}
use Rattle.printing.specs.Names.{first_from, differ, body_name}
use Rattle.printing.specs.View.{bytes}
use Rattle.printing.proofs.names.body_primes.Given as goal

abbrev pub invariant-loop-primes : goal.invariant-loop-primes
invariant-loop-primes g l =
    first_from (differ (bytes l.taken.keys) (map body_name (range_with_len 0 l.bodies))) l.primes (l.most - l.primes)
    ≡ first_from (differ (bytes l.taken.keys) (map body_name (range_with_len 0 l.bodies))) 0 l.most
