use Rattle.std.proofs.Common.{ℕ, IfErr, IfNone, IfOk, IfSome, subst}
use Rattle.term.specs.Proc.{bodies_of}
use Rattle.term.specs.Specs.{Specified}
use Rattle.refinement.specs.Properties.{Has, IsUnsettled, Shows}
use Rattle.refinement.proofs.seeking.lacks.Goals as goal

pub returns-clause-has : goal.returns-clause-has
returns-clause-has g c = subst (λ (w : Specified). IfOk c.decide-answer.result (λ found. IfNone found (Has c.args.property (bodies_of w.bodies)))) c.new-nodes.ensures.spec c.decide-answer.ensures.has

pub returns-clause-shows : goal.returns-clause-shows
returns-clause-shows g c = subst (λ (w : Specified). IfOk c.decide-answer.result (λ found. IfSome found (λ x. Shows c.args.property (bodies_of w.bodies) x.trace.items x.lack))) c.new-nodes.ensures.spec c.decide-answer.ensures.shows

pub returns-clause-undecided : goal.returns-clause-undecided
returns-clause-undecided g c =
    subst (λ (n : ℕ). IfErr c.decide-answer.result (IsUnsettled n c.args.spec)) c.new-nodes.ensures.most
    (subst (λ (w : Specified). IfErr c.decide-answer.result (IsUnsettled c.new-nodes.result.most w)) c.new-nodes.ensures.spec c.decide-answer.ensures.undecided)
