use Rattle.values.specs.Tables.{table}
use Rattle.declared_names.specs.View.{entries}
use Rattle.script.specs.Tables.{said}
use Rattle.script.proofs.Learning.{none_reached, stands}
use Rattle.script.proofs.standing.named_sets.Goals as goal

pub learn_names-requires : goal.learn_names-requires
learn_names-requires g c =
    let n = c.args.names.now in
    none_reached n.sigma.alphabet (table n.known) (entries n.entries) (said c.new-sets.result) c.new-sets.ensures

pub returns-clause-stand : goal.returns-clause-stand
returns-clause-stand g c =
    let n = c.args.names.now in
    stands n.sigma.alphabet (table n.known) (entries n.entries) (said c.learn_names.new.table) c.in_ok-learn_names.ensures.0 c.in_ok-learn_names.ensures.1
