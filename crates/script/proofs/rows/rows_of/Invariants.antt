use Rattle.std.proofs.Common.{◌≡◌, map, take}
use Rattle.alphabet.specs.Channels.{events}
use Rattle.event_phrases.specs.View.{row}
use Rattle.script.proofs.rows.rows_of.Given as goal

abbrev pub invariant-loop-number : goal.invariant-loop-number
invariant-loop-number g l = map row l.rows.items ≡ take l.number (events l.alphabet)
