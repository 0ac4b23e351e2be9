use Rattle.declared_names.proofs.TextNames.{texts_have_names}
use Rattle.declared_names.proofs.law.trees_have_names.Goals as goal

pub returns : goal.returns
returns c = texts_have_names
