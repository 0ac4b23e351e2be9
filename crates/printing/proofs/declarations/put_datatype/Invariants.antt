use Rattle.std.proofs.Common.{◌≡◌, ◌++◌, map, codes}
use Rattle.std.specs.List.{flat_map}
use Rattle.printing.specs.Printed.{datatype_line}
use Rattle.printing.specs.View.{bytes}
use Rattle.printing.proofs.declarations.put_datatype.Given as goal

abbrev pub invariant-loop-name : goal.invariant-loop-name
invariant-loop-name g l =
    (l.text.items ++ flat_map (λ u. codes " | " ++ u) (bytes l.name-iterator)) ++ codes "\n" ≡ l.fn.text.items ++ datatype_line l.primes (bytes l.fn.constants.keys)
