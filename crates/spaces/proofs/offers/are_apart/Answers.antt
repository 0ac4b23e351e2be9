use Rattle.spaces.proofs.Offering.{apart-says}
use Rattle.spaces.proofs.offers.are_apart.Goals as goal

pub returns : goal.returns
returns c = apart-says c.args.set.now c.args.other.now c.minus.result c.is_within.result c.minus.ensures c.is_within.ensures
