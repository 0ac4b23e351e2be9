use Rattle.std.proofs.Common.{sym, ap, ◌∙◌}
use Rattle.std.specs.Prelude.{nat_eq}
use Rattle.syntax.proofs.Failing.{fails_none}
use Rattle.values.proofs.Lists.{truth_alone, truth_with}
use Rattle.values.proofs.truths.truth_of.Goals as goal

pub returns-then-is_empty : goal.returns-then-is_empty
returns-then-is_empty g c = truth_alone c.args.truth c.args.worths.items (ap (λ n. nat_eq n 0) (sym c.args.worths.ok.0) ∙ sym c.is_empty.ensures ∙ c.if-is_empty.true)

pub returns : goal.returns
returns g c = fails_none c.fault.result _ (truth_with c.args.truth c.args.worths.items (ap (λ n. nat_eq n 0) (sym c.args.worths.ok.0) ∙ sym c.is_empty.ensures ∙ c.if-is_empty.false))
