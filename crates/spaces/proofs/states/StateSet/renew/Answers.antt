use Rattle.std.proofs.Common.{sym, subst}
use Rattle.std.proofs.lemmas.Result.{IfOk-weaker}
use Rattle.term.specs.Specs.{Specified}
use Rattle.tau_closures.specs.KeptBelonging.{KeptBelongs}
use Rattle.tau_closures.specs.Unfolding.{unfolding_depth}
use Rattle.spaces.specs.Spaces.{states}
use Rattle.spaces.proofs.Answering.{members-belong}
use Rattle.spaces.proofs.states.StateSet.renew.Goals as goal

pub returns-clause-same : goal.returns-clause-same
returns-clause-same g c = λ u b.
    IfOk-weaker c.renew.result _ _
    (λ set m. members-belong c.renew.new.self (states c.args.space.now c.args.self) set u m
    (subst (λ (p : Specified). KeptBelongs p (unfolding_depth p) (states c.args.space.now c.args.self) u) (sym c.renew.ensures.spec) b.exact))
    c.renew.ensures.set
