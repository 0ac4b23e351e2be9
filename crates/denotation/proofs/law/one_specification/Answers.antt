use Rattle.denotation.proofs.Unique.{one_spec}
use Rattle.denotation.proofs.law.one_specification.Goals as goal

pub returns : goal.returns
returns c = one_spec
