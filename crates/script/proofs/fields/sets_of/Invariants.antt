use Rattle.std.proofs.Common.{◌≡◌, map, take}
use Rattle.alphabet.specs.Stored.{field_of}
use Rattle.event_phrases.specs.View.{listed}
use Rattle.script.proofs.fields.sets_of.Given as goal

abbrev pub invariant-loop-field : goal.invariant-loop-field
invariant-loop-field g l = map (λ v. listed v.items) l.sets.items ≡ map field_of (take l.field-index l.fields)
