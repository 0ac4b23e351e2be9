use Rattle.std.proofs.Common.{◌≡◌, ◌++◌, take, codes}
use Rattle.std.specs.List.{flat_map}
use Rattle.printing.specs.Printed.{pair_text}
use Rattle.printing.proofs.processes.put_other_pairs.Given as goal

abbrev pub invariant-loop-pair : goal.invariant-loop-pair
invariant-loop-pair g l = l.text.items ≡ l.fn.text.items ++ flat_map (λ p. codes ", " ++ pair_text l.alphabet p) (take l.pair-index l.pairs)
