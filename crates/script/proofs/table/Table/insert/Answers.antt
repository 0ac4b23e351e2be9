use Rattle.std.proofs.Common.{Some, cond, ap, ◌∙◌}
use Rattle.values.specs.Names.{same_name}
use Rattle.script.specs.Tables.{said}
use Rattle.script.proofs.Tables.{finds, inserted}
use Rattle.script.proofs.table.Table.insert.Goals as goal

pub returns : goal.returns
returns g c = λ n. ap (λ es. finds es n) c.in_ok-_old.ensures.entries
    ∙ inserted c.args.self.now.entries.entries c.in_ok-name.name c.args.value n
    ∙ ap (λ m. cond (same_name n m) (Some c.args.value) (said c.args.self.now n)) c.in_ok-name.ensures.items
