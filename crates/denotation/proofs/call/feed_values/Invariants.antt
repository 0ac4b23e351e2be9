use Rattle.std.proofs.Common.{◌≡◌, take}
use Rattle.std.specs.List.{flat_map, fold}
use Rattle.event_phrases.specs.View.{listed}
use Rattle.denotation.specs.CallLaws.{value_writes}
use Rattle.denotation.proofs.call.feed_values.Given as goal

abbrev pub invariant-loop-value : goal.invariant-loop-value
invariant-loop-value g l = l.state ≡ fold g.H.Hasher.write l.initial.state (flat_map value_writes (listed (take l.value-index l.values)))
