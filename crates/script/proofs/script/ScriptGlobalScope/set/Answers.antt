use Rattle.std.proofs.Common.{sym, ◌∙◌}
use Rattle.script.specs.Tables.{said}
use Rattle.script.proofs.Tables.{copied}
use Rattle.script.proofs.Masks.{stored}
use Rattle.script.proofs.script.ScriptGlobalScope.set.Goals as goal

pub returns : goal.returns
returns g c =
    stored c.args.self.now.names.now.sigma.alphabet (said c.args.self.now.sets.now) c.args.name.now c.copied.result
    (c.copied.ensures ∙ sym (copied c.get.result) ∙ c.get.ensures) c.args.self.now.lie
