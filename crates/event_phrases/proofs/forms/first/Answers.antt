use Rattle.syntax.specs.View.{shape}
use Rattle.event_phrases.proofs.NodeParts.{has_none, has_first}
use Rattle.event_phrases.proofs.forms.first.Goals as goal

pub returns-in-empty : goal.returns-in-empty
returns-in-empty g c = has_none shape c.args.parts.now c.in-empty.len_below

pub returns-in-len1-up : goal.returns-in-len1-up
returns-in-len1-up g c = has_first shape c.args.parts.now c.first-item.result c.in-len1-up.len_at_least c.first-item.is
