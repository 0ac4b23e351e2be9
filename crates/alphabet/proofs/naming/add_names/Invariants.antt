use Rattle.std.proofs.Common.{◌≡◌, ◌++◌, take}
use Rattle.alphabet.specs.Stored.{channel_of}
use Rattle.alphabet.specs.Naming.{own_names}
use Rattle.alphabet.specs.Tables.{stored_names}
use Rattle.alphabet.proofs.naming.add_names.Given as goal

abbrev pub invariant-loop-number : goal.invariant-loop-number
invariant-loop-number g l = stored_names l.names.keys ≡ stored_names l.initial.names.keys ++ take l.number (own_names (channel_of l.channel l.fields))
