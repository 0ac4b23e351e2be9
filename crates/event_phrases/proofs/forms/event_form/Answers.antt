use Rattle.std.proofs.Common.{map, sym}
use Rattle.syntax.specs.View.{shapes}
use Rattle.event_phrases.specs.Forms.{event_part}
use Rattle.event_phrases.proofs.Views.{no_event_form}
use Rattle.event_phrases.proofs.forms.event_form.Goals as goal

pub returns-in_default : goal.returns-in_default
returns-in_default g c = sym (no_event_form c.args.form (map event_part (shapes c.args.parts.now)) c.in_default.not-Event c.in_default.not-Brackets c.in_default.not-If)
