use Rattle.std.proofs.Common.{map, sym}
use Rattle.syntax.specs.View.{shapes}
use Rattle.denotation.specs.Phrases.{part}
use Rattle.denotation.proofs.Views.{no_operation}
use Rattle.denotation.proofs.forms.operation.Goals as goal

pub returns-in_default : goal.returns-in_default
returns-in_default g c = sym (no_operation c.args.operator (map part (shapes c.args.parts.now)) c.in_default.not-Prefix c.in_default.not-Sequence c.in_default.not-Interrupt c.in_default.not-ExternalChoice c.in_default.not-InternalChoice c.in_default.not-Interleaving c.in_default.not-Sharing c.in_default.not-Alphabetised c.in_default.not-Hiding c.in_default.not-Renaming c.in_default.not-Guard)
