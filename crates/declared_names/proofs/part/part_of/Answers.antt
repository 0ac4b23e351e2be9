use Rattle.declared_names.proofs.part.part_of.Goals as goal
use Rattle.values.proofs.Parts.{node_is}

pub returns-in-Node : goal.returns-in-Node
returns-in-Node g c = node_is c.args.tree.now c.in-Node.line c.in-Node.form c.in-Node.parts c.deref-in-Node.result.now c.in-Node.is c.deref-in-Node.ensures.value
