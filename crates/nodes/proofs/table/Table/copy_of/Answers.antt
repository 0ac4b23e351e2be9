use Rattle.nodes.proofs.table.Table.copy_of.Goals as goal

pub with_own_parameters-requires : goal.with_own_parameters-requires
with_own_parameters-requires g c = record { node = c.in-Some.ensures.within _ c.args.self.now c.args.other.now.processes c.requires.places c.requires.node }
