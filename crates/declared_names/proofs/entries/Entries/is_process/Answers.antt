use Rattle.declared_names.specs.View.{entries}
use Rattle.declared_names.proofs.ProcessNames.{undeclared}
use Rattle.declared_names.proofs.entries.Entries.is_process.Goals as goal

pub returns-in-None : goal.returns-in-None
returns-in-None g c = undeclared (entries c.args.self.now) c.args.name.now c.in-None.ensures
