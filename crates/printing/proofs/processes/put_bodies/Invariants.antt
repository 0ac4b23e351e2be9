use Rattle.std.proofs.Common.{◌≡◌, ◌++◌}
use Rattle.std.specs.List.{flat_map, range_with_len}
use Rattle.term.specs.Proc.{bodies_of}
use Rattle.printing.specs.Printed.{body_line}
use Rattle.printing.proofs.processes.put_bodies.Given as goal

abbrev pub invariant-loop-number : goal.invariant-loop-number
invariant-loop-number g l =
    l.text.items ≡ l.fn.text.items ++ flat_map (λ k. body_line l.spec.alphabet l.primes k (bodies_of l.spec.bodies k)) (range_with_len 0 l.number)
