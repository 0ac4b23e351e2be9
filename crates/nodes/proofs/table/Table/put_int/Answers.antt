use Rattle.std.proofs.Common.{ap}
use Rattle.nodes.specs.Shapes.{at}
use Rattle.nodes.specs.Looks.{look}
use Rattle.nodes.proofs.HiddenSteps.{both-found}
use Rattle.nodes.proofs.table.Table.put_int.Goals as goal

pub returns-clause-cut : goal.returns-clause-cut
returns-clause-cut g c =
    let ps = c.args.self.now.processes in
    both-found c.args.most (at ps c.args.p) (at ps c.args.q) (look ps c.args.into.now.items) (look ps c.add.new.into.items) (look ps c.add-2.new.into.items) (ap (look ps) c.requires.empty) c.in_ok-add.ensures.joined c.in_ok-add-2.ensures.joined
