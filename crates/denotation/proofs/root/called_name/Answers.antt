use Rattle.std.proofs.Common.{sym, ap}
use Rattle.denotation.specs.Denotes.{name_called}
use Rattle.denotation.specs.Shapes.{plain}
use Rattle.denotation.proofs.Roots.{no_name}
use Rattle.denotation.proofs.root.called_name.Goals as goal

pub returns-in-Called : goal.returns-in-Called
unfolding name_called
returns-in-Called g c = sym (ap (λ p. name_called (plain p)) c.in-Called.is)

pub returns-in_default : goal.returns-in_default
returns-in_default g c = sym (no_name c.args.phrase c.in_default.not-Called)
