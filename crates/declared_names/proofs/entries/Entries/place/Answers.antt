use Rattle.declared_names.proofs.Tables.{placed}
use Rattle.declared_names.proofs.entries.Entries.place.Goals as goal

pub returns : goal.returns
returns g c = placed c.args.self.now.table.entries c.args.name.now c.get_index_of.result c.get_index_of.ensures.index c.get_index_of.ensures.found
