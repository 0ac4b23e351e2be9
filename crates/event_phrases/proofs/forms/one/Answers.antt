use Rattle.std.proofs.Common.{arith}
use borrow.Author.Tests.{ltb-true, ltb-false}
use Rattle.syntax.specs.View.{shape}
use Rattle.event_phrases.proofs.NodeParts.{has_one, not_one}
use Rattle.event_phrases.proofs.forms.one.Goals as goal
use Rattle.event_phrases.proofs.forms.one.Goals.{in_default-via-then-parts-lt1, in_default-via-else-parts-lt1+else-parts-lt2}

pub returns-in-len1 : goal.returns-in-len1
returns-in-len1 g c = has_one shape c.args.parts.now c.only-item.result c.in-len1.len_below c.in-len1.len_at_least c.only-item.is

pub returns-in_default : goal.returns-in_default
returns-in_default g c = not_one shape c.args.parts.now (λ e. elim c.in_default.branch [
  | in_default-via-then-parts-lt1 w ↦ omega (arith, e, ltb-true)
  | in_default-via-else-parts-lt1+else-parts-lt2 w ↦ omega (arith, e, ltb-false)
])
