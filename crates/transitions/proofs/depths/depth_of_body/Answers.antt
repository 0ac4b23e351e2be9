use Rattle.std.proofs.Common.{length, arith}
use Rattle.nodes.proofs.Looking.{below-at}
use Rattle.transitions.proofs.depths.depth_of_body.Goals as goal

pub facts-requires : goal.facts-requires
facts-requires g c = below-at (length c.args.table.now.processes) c.args.bodies.now c.args.body 0 c.requires (omega arith)
