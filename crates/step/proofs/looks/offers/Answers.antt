use Rattle.std.proofs.Common.{sym, ◌∙◌}
use Rattle.term.specs.Proc.{proc}
use Rattle.targets.proofs.Offered.{offered-Offers, Act-offered}
use Rattle.step.proofs.looks.offers.Goals as goal

pub returns-clause-events : goal.returns-clause-events
returns-clause-events g c =
    λ a.
    let k = c.facts_of_term.ensures in
    ((λ t. offered-Offers (proc c.args.term.now) a (sym (k.offers_are a) ∙ t)), (λ (Q, d). k.offers_are a ∙ Act-offered d))

pub returns-clause-tick : goal.returns-clause-tick
returns-clause-tick g c = c.facts_of_term.ensures.no_tick
