use Rattle.values.specs.Tables.{table}
use Rattle.declared_names.specs.View.{entries}
use Rattle.declared_names.proofs.Learning.{stands}
use Rattle.declared_names.proofs.standing.table_of_names.Goals as goal

pub returns : goal.returns
returns g c = stands (entries c.args.entries.now) (table c.learn_names.new.table) c.in_ok-learn_names.ensures.0 c.in_ok-learn_names.ensures.1
