use Rattle.std.proofs.Common.{sym, ap, ◌∙◌}
use Rattle.std.specs.Prelude.{nat_eq}
use Rattle.syntax.proofs.Failing.{fails_none}
use Rattle.values.proofs.Lists.{some_parts}
use Rattle.values.proofs.phrase.nothing.Goals as goal

pub returns : goal.returns
returns g c = fails_none c.fault.result _ (some_parts c.args.worths.items (ap (λ n. nat_eq n 0) (sym c.args.worths.ok.0) ∙ sym c.is_empty.ensures ∙ c.if-is_empty.false))
