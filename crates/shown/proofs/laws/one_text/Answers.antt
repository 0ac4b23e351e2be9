use Rattle.shown.proofs.OneText.{one_text}
use Rattle.shown.proofs.laws.one_text.Goals as goal

pub returns : goal.returns
returns c = one_text
