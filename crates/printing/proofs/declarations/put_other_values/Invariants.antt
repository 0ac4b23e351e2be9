use Rattle.std.proofs.Common.{◌≡◌, ◌++◌, take, codes}
use Rattle.std.specs.List.{flat_map}
use Rattle.alphabet.specs.Channels.{value_text}
use Rattle.alphabet.specs.Stored.{value_of}
use Rattle.printing.proofs.declarations.put_other_values.Given as goal

abbrev pub invariant-loop-value : goal.invariant-loop-value
invariant-loop-value g l = l.text.items ≡ l.fn.text.items ++ flat_map (λ v. codes ", " ++ value_text (value_of v)) (take l.value-index l.values)
