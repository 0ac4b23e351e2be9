use Rattle.std.proofs.Common.{ap}
use Rattle.nodes.specs.Looks.{look}
use Rattle.nodes.proofs.Acting.{ext-acts}
use Rattle.nodes.proofs.table.Table.put_ext.Goals as goal

pub returns-clause-cut : goal.returns-clause-cut
returns-clause-cut g c =
    let ps = c.args.self.now.processes in
    λ P Q a d e.
    ext-acts a c.args.most (look ps c.args.into.now.items) (look ps c.join-2.new.into.items) (ap (look ps) c.requires.empty) P Q (look ps c.args.lefts.now) (look ps c.args.rights.now) (look ps c.join.new.into.items) d e c.in_ok-join.ensures.joined c.in_ok-join-2.ensures.joined
