use Rattle.values.specs.Tables.{table}
use Rattle.declared_names.specs.View.{entries}
use Rattle.script.specs.Tables.{said}
use Rattle.script.proofs.NamedSets.{sets_lie}
use Rattle.script.proofs.standing.set_of_body.Goals as goal

pub invariant_of-script : goal.invariant_of-script
invariant_of-script g c = record { lie = sets_lie c.args.names.now.sigma.alphabet (table c.args.names.now.known) (entries c.args.names.now.entries) (said c.args.sets.now) c.requires }
