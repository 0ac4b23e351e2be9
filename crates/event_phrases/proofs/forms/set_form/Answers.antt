use Rattle.std.proofs.Common.{map, sym}
use Rattle.syntax.specs.View.{shapes}
use Rattle.event_phrases.specs.Forms.{set_part}
use Rattle.event_phrases.proofs.Views.{no_set_form}
use Rattle.event_phrases.proofs.forms.set_form.Goals as goal

pub returns-in_default : goal.returns-in_default
returns-in_default g c =
    let d = c.in_default in
    sym (no_set_form c.args.form (map set_part (shapes c.args.parts.now)) d.not-Brackets d.not-Event d.not-EmptySet d.not-NoProductions d.not-Events d.not-Productions d.not-Set d.not-Union d.not-Intersection d.not-Difference d.not-If)
