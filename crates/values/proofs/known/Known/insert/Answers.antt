use Rattle.std.proofs.Common.{◌∙◌}
use Rattle.values.proofs.Lists.{inserted, kept}
use Rattle.values.proofs.known.Known.insert.Goals as goal

pub returns-clause-inserted : goal.returns-clause-inserted
returns-clause-inserted g c = λ n. kept _ c.insert.new.self.entries n c.in_ok-_old.ensures.entries ∙ inserted c.args.self.now.worths.entries c.args.name c.args.worth n
