use Rattle.std.proofs.Common.{◌≡◌, ◌-◌, [], ◌∷◌}
use Rattle.printing.specs.Names.{first_from, differ, datatype_name}
use Rattle.printing.specs.View.{bytes}
use Rattle.printing.proofs.names.datatype_primes.Given as goal

abbrev pub invariant-loop-primes : goal.invariant-loop-primes
invariant-loop-primes g l =
    first_from (differ (bytes l.taken.keys) (datatype_name ∷ [])) l.primes (l.most - l.primes) ≡ first_from (differ (bytes l.taken.keys) (datatype_name ∷ [])) 0 l.most
