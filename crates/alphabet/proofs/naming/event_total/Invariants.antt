use Rattle.std.proofs.Common.{◌≡◌, min, map, take}
use Rattle.alphabet.specs.Stored.{field_of}
use Rattle.alphabet.proofs.Choices.{ways}
use Rattle.alphabet.proofs.naming.event_total.Given as goal

abbrev pub invariant-loop-field : goal.invariant-loop-field
invariant-loop-field g l = l.total ≡ min (ways (take l.field-index (map field_of l.fields))) 257
