use Rattle.std.proofs.Common.{Option, Some, ap, ◌∙◌}
use Rattle.values.specs.Values.{Name}
use Rattle.declared_names.proofs.Tables.{name_at}
use Rattle.declared_names.proofs.entries.Entries.name_at.Goals as goal

pub returns-in-Some : goal.returns-in-Some
returns-in-Some g c = ap (λ (n : Name). let o : Option Name = Some n in o) c.as_slice.ensures.value ∙ name_at c.args.self.now.table.entries c.args.place _ c.in-Some.ensures.entry

pub returns-in-None : goal.returns-in-None
returns-in-None g c = name_at c.args.self.now.table.entries c.args.place _ c.in-None.ensures.entry
