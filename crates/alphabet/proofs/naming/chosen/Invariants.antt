use Rattle.std.proofs.Common.{◌≡◌, ◌<◌, ◌≤◌, map, drop, length, get_or, []}
use Rattle.alphabet.specs.Channels.{choices}
use Rattle.alphabet.specs.Stored.{field_of}
use Rattle.alphabet.proofs.naming.chosen.Given as goal

abbrev pub invariant-loop-place : goal.invariant-loop-place
invariant-loop-place g l = record {
  all : l.stride ≡ length (choices (drop l.place (map field_of l.fields)));
  within : l.left < l.stride;
  before : l.place ≤ l.field;
  rest : drop l.place (get_or (choices (map field_of l.fields)) l.number []) ≡ get_or (choices (drop l.place (map field_of l.fields))) l.left [];
}
