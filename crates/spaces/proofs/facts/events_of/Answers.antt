use Rattle.spaces.proofs.Offering.{takes-end, takes-on}
use Rattle.spaces.proofs.facts.events_of.Goals as goal

pub returns-then-facts : goal.returns-then-facts
returns-then-facts c = λ P k. takes-end c.args.facts P c.with.result k c.if-facts.true c.with.ensures

pub returns-else-facts : goal.returns-else-facts
returns-else-facts c = λ P k. takes-on c.args.facts P k c.if-facts.false
