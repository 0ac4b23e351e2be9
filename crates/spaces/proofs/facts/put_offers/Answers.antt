use Rattle.tau_closures.proofs.Acting.{on-ok}
use Rattle.spaces.proofs.Offering.{offers-same, offers-more, ends-on, moves-on, known-waits, known-offer, not-on, off-on}
use Rattle.spaces.proofs.facts.put_offers.Goals as goal

pub returns-then-facts : goal.returns-then-facts
returns-then-facts g c = λ P ps k a. offers-same c.args.into.now.items ps P a (ends-on c.args.facts P k c.if-facts.true)

pub returns-then-not-facts : goal.returns-then-not-facts
returns-then-not-facts g c = λ P ps k a. offers-same c.args.into.now.items ps P a (moves-on c.args.facts P k (not-on c.args.facts.rests c.if-not-facts.true))

pub returns : goal.returns
returns g c =
    on-ok c.put_offer.result _ _ c.put_offer.ensures
    (λ p P ps k a.
    offers-more c.args.into.now.items c.put_offer.new.into.items c.args.facts.offers ps P a
    (known-waits c.args.facts P k c.if-facts.false (off-on c.args.facts.rests c.if-not-facts.false)) (known-offer c.args.facts P k) p)
