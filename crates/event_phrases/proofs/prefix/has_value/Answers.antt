use Rattle.std.proofs.Common.{◌∙◌}
use Rattle.values.proofs.ValueSets.{among_view}
use Rattle.event_phrases.proofs.prefix.has_value.Goals as goal

pub returns : goal.returns
returns g c = c.contains.ensures ∙ among_view c.args.value.now c.args.set.now.keys
