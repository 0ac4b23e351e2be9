use Rattle.std.proofs.Common.{◌≡◌, ℕ, List, drop}
use Rattle.std.specs.Option.{option_map}
use Rattle.event_phrases.specs.Events.{fields_named}
use Rattle.script.specs.Tables.{said}
use Rattle.script.specs.Fields.{field_lists}
use Rattle.script.proofs.fields.fields_by_name.Given as goal

abbrev pub invariant-loop-number : goal.invariant-loop-number
invariant-loop-number g l = (name : List ℕ) → option_map field_lists (said l.table name) ≡ fields_named (drop l.number l.alphabet) name
