use Rattle.std.proofs.Common.{◌≡◌, List, map}
use Rattle.alphabet.specs.Channels.{Channel, events}
use Rattle.event_phrases.specs.Uses.{behind_pairs}
use Rattle.event_phrases.specs.Events.{pairs_from}
use Rattle.event_phrases.specs.View.{beginning, row}
use Rattle.event_phrases.proofs.Renamings.{pairs_behind}
use Rattle.event_phrases.proofs.renaming.pairs_from.Given as goal

abbrev pub invariant-loop-number : goal.invariant-loop-number
invariant-loop-number g l =
    (cs : List Channel) → map row l.events ≡ events cs → behind_pairs l.pairs.items (pairs_behind row cs (beginning l.left) (beginning l.right) l.events l.number) ≡ behind_pairs l.fn.before.items (pairs_from cs (beginning l.left) (beginning l.right) 0 (events cs))
