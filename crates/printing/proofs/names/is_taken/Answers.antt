use Rattle.std.proofs.Common.{◌∙◌}
use Rattle.printing.proofs.NameLists.{among_view}
use Rattle.printing.proofs.names.is_taken.Goals as goal

pub returns : goal.returns
returns g c = c.contains.ensures ∙ among_view c.args.name.now c.args.taken.now.keys
