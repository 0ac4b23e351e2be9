use Rattle.std.proofs.Common.{sym, subst, arith}
use Rattle.term.specs.Proc.{proc}
use Rattle.targets.specs.HiddenSets.{SetsBelow}
use Rattle.step.proofs.Whole.{all-targets}
use Rattle.step.proofs.finding.put_all.Goals as goal

pub put_targets_within-requires-clause-hides : goal.put_targets_within-requires-clause-hides
put_targets_within-requires-clause-hides g c = subst (SetsBelow 256) (sym c.in_ok-number.ensures.number.is) c.requires.hides

pub returns-clause-here : goal.returns-clause-here
returns-clause-here g c = c.in_ok-put_targets_within.ensures.targets.here

pub returns-clause-targets : goal.returns-clause-targets
returns-clause-targets g c =
    all-targets 18446744073709551615 c.args.all.now c.number_of_term.new.self c.put_targets_within.new.self c.in_ok-number.number c.args.label (proc c.args.term.now) c.put_targets_within.new.into.items
    c.number_of_term.ensures.kept c.put_targets_within.ensures.kept c.in_ok-number.ensures.number c.in_ok-put_targets_within.ensures.targets (omega arith)
