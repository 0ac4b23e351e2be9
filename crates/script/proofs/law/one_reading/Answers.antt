use Rattle.script.proofs.Denoting.{read_once}
use Rattle.script.proofs.law.one_reading.Goals as goal

pub returns : goal.returns
returns c = read_once c.one_tree.ensures.text c.one_phrase.ensures c.one_specification.ensures
