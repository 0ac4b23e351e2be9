use Rattle.std.proofs.Common.{◌≡◌, ◌++◌, take, codes}
use Rattle.std.specs.List.{flat_map}
use Rattle.alphabet.specs.Stored.{field_of}
use Rattle.printing.specs.Printed.{field_text}
use Rattle.printing.proofs.declarations.put_other_fields.Given as goal

abbrev pub invariant-loop-field : goal.invariant-loop-field
invariant-loop-field g l = l.text.items ≡ l.fn.text.items ++ flat_map (λ f. codes "." ++ field_text (field_of f)) (take l.field-index l.fields)
