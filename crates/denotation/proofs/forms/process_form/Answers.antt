use Rattle.std.proofs.Common.{map, sym}
use Rattle.syntax.specs.View.{shapes}
use Rattle.denotation.specs.Phrases.{part}
use Rattle.denotation.proofs.Views.{no_form}
use Rattle.denotation.proofs.forms.process_form.Goals as goal

pub returns-in_default : goal.returns-in_default
returns-in_default g c = sym (no_form c.args.form (map part (shapes c.args.parts.now)) c.in_default.not-Stop c.in_default.not-Skip c.in_default.not-Event c.in_default.not-If c.in_default.not-Brackets c.in_default.not-Operation c.in_default.not-Call c.in_default.not-ReplicatedExternal c.in_default.not-ReplicatedInternal c.in_default.not-ReplicatedInterleaving)
