use Rattle.std.proofs.Common.{◌∙◌}
use Rattle.syntax.proofs.Failing.{fails_none}
use Rattle.values.proofs.Lists.{not_two}
use Rattle.values.proofs.worth.the_two.Goals as goal

pub returns-then-len-ne2 : goal.returns-then-len-ne2
returns-then-len-ne2 g c = fails_none c.fault.result _ (not_two c.args.worths.items (λ e. c.if-len-ne2.true (c.len.ensures ∙ c.args.worths.ok.0 ∙ e)))
