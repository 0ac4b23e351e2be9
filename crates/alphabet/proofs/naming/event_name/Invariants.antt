use Rattle.std.proofs.Common.{◌≡◌, ◌<◌, ◌++◌, map, drop, length, get_or, []}
use Rattle.alphabet.specs.Channels.{choices, dotted}
use Rattle.alphabet.specs.Stored.{field_of}
use Rattle.alphabet.proofs.naming.event_name.Given as goal

abbrev pub invariant-loop-field : goal.invariant-loop-field
invariant-loop-field g l = record {
  all : l.stride ≡ length (choices (drop l.field-index (map field_of l.fields)));
  within : l.left < l.stride;
  so_far : l.name.items ++ dotted (get_or (choices (drop l.field-index (map field_of l.fields))) l.left []) ≡ l.channel ++ dotted (get_or (choices (map field_of l.fields)) l.number []);
}
