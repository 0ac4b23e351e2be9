use Rattle.std.proofs.Common.{◌≡◌, ℕ, take}
use Rattle.alphabet.specs.EventSets.{has}
use Rattle.event_phrases.specs.Events.{is_pair_of}
use Rattle.event_phrases.proofs.pairs.images.Given as goal

abbrev pub invariant-loop-pair : goal.invariant-loop-pair
invariant-loop-pair l = (b : ℕ) → has l.set b ≡ is_pair_of (take l.pair-index l.pairs) l.event b
