use Rattle.std.proofs.Common.{◌≡◌, true, map}
use Rattle.std.specs.List.{range_with_len}
use Rattle.printing.specs.Names.{differ, body_name}
use Rattle.printing.specs.View.{bytes}
use Rattle.printing.proofs.names.bodies_differ.Given as goal

abbrev pub invariant-loop-number : goal.invariant-loop-number
invariant-loop-number g l = differ (bytes l.taken.keys) (map body_name (range_with_len 0 l.number)) l.primes ≡ true
