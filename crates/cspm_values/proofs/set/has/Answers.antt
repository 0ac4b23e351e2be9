use Rattle.std.proofs.Common.{◌∙◌}
use Rattle.cspm_values.proofs.Members.{has_view}
use Rattle.cspm_values.proofs.set.has.Goals as goal

pub returns : goal.returns
returns g c = c.contains.ensures ∙ has_view c.args.value.now c.args.set.now.keys
