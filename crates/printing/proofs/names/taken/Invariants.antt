use Rattle.std.proofs.Common.{◌≡◌, ◌++◌, [], map, take}
use Rattle.std.specs.List.{flat_map}
use Rattle.printing.specs.Names.{with_names, constants_in}
use Rattle.printing.specs.View.{bytes}
use Rattle.printing.proofs.names.taken.Given as goal

abbrev pub invariant-loop-number : goal.invariant-loop-number
invariant-loop-number g l = bytes l.names.keys ≡ with_names [] (flat_map constants_in l.alphabet ++ map (λ c. c.name) (take l.number l.alphabet))
