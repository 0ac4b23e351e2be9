use Rattle.std.proofs.Common.{◌≡◌, filter, take}
use Rattle.values.specs.Values.{is_among}
use Rattle.values.specs.View.{values}
use Rattle.event_phrases.specs.View.{listed}
use Rattle.event_phrases.proofs.fields.common.Given as goal

abbrev pub invariant-loop-value : goal.invariant-loop-value
invariant-loop-value g l = listed l.common.items ≡ filter (λ v. is_among v (values l.part)) (listed (take l.value-index l.all))
