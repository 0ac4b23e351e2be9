use Rattle.std.proofs.Common.{sym, ◌∙◌}
use Rattle.syntax.proofs.Failing.{fails_none}
use Rattle.values.proofs.Lists.{only_one, not_one}
use Rattle.values.proofs.worth.the_only.Goals as goal

pub returns-then-len-ne1 : goal.returns-then-len-ne1
returns-then-len-ne1 g c = fails_none c.fault.result _ (not_one c.args.worths.items (λ e. c.if-len-ne1.true (c.len.ensures ∙ c.args.worths.ok.0 ∙ e)))

pub returns-in-Some : goal.returns-in-Some
returns-in-Some g c = only_one c.args.worths.items c.pop.new.self.items c.in-Some.only (sym c.args.worths.ok.0 ∙ sym c.len.ensures ∙ c.if-len-ne1.false) c.in-Some.ensures.items
