use Rattle.declared_names.proofs.Tables.{meaning_at}
use Rattle.declared_names.proofs.entries.Entries.at.Goals as goal

pub returns-in-Some : goal.returns-in-Some
returns-in-Some g c = meaning_at c.args.self.now.table.entries c.args.place _ c.in-Some.ensures.entry

pub returns-in-None : goal.returns-in-None
returns-in-None g c = meaning_at c.args.self.now.table.entries c.args.place _ c.in-None.ensures.entry
