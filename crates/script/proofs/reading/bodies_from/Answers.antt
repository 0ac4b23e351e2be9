use Rattle.values.specs.Tables.{table}
use Rattle.declared_names.specs.View.{entries}
use Rattle.denotation.specs.View.{root as root_view}
use Rattle.script.specs.Standing.{events_by}
use Rattle.script.specs.Tables.{said}
use Rattle.script.proofs.Denoting.{bodies_with}
use Rattle.script.proofs.NamedSets.{sets_lie}
use Rattle.script.proofs.reading.bodies_from.Goals as goal

pub invariant_of-script : goal.invariant_of-script
invariant_of-script g c =
    let n = c.args.names.now in
    record { lie = sets_lie n.sigma.alphabet (table n.known) (entries n.entries) (said c.in_ok-sets.sets) c.in_ok-sets.ensures.reached }

pub returns-clause-only : goal.returns-clause-only
returns-clause-only g c = λ ps a.
    let n = c.args.names.now in
    c.gathered.ensures.only ps (bodies_with n.sigma.alphabet (table n.known) (entries n.entries) (root_view c.args.root.now) (events_by (said c.in_ok-sets.sets)) ps c.in_ok-sets.ensures.stand a)
