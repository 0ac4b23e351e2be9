use Rattle.std.proofs.Common.{◌∙◌}
use Rattle.attending.proofs.attending.monitor_of.Goals as goal

pub returns-in-Ok-new-clause-stands : goal.returns-in-Ok-new-clause-stands
returns-in-Ok-new-clause-stands g c spec reads = (c.in-Ok-new.ensures.spec ∙ c.in-Ok.ensures.only spec reads, c.in-Ok-new.ensures.trace)
