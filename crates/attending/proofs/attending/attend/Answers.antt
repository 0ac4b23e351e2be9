use Rattle.std.proofs.Common.{◌∙◌, ap}
use Rattle.attending.proofs.attending.attend.Goals as goal

pub returns-in-Ok-hear-clause-only : goal.returns-in-Ok-hear-clause-only
returns-in-Ok-hear-clause-only g c spec reads = c.in-Ok-hear.ensures.spec ∙ ap (λ x. x.spec) c.in-Ok-begin.ensures.session ∙ c.in-Ok.ensures.only spec reads
