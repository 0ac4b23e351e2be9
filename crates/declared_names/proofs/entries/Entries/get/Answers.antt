use Rattle.std.proofs.Common.{ap, ◌∙◌}
use Rattle.std.specs.Option.{option_map}
use Rattle.values.proofs.Lists.{copied}
use Rattle.declared_names.specs.View.{meaning_of}
use Rattle.declared_names.proofs.Tables.{looked_up}
use Rattle.declared_names.proofs.entries.Entries.get.Goals as goal

pub returns : goal.returns
returns g c = copied (λ e. meaning_of e.meaning) c.get.result ∙ ap (option_map (λ e. meaning_of e.meaning)) c.get.ensures.value ∙ looked_up c.args.self.now.table.entries c.args.name.now
