use Rattle.std.proofs.Common.{◌≡◌}
use Rattle.wire.proofs.ResultLemmas.{ok_all}
use Rattle.attending.proofs.ReasonLemmas.{last_verdict, last_within}
use Rattle.attending.proofs.reasons.put_judged.Goals as goal

pub follow-requires-clause-within : goal.follow-requires-clause-within
follow-requires-clause-within g c = last_within c.args.monitor.now.spec c.requires.fits.0 c.args.entry.now c.args.monitor.now.trace c.requires.fits.2 c.requires.fits.1

pub follow-requires-clause-verdict : goal.follow-requires-clause-verdict
follow-requires-clause-verdict g c = last_verdict c.args.monitor.now.spec c.requires.fits.0 c.args.entry.now c.args.monitor.now.trace c.requires.fits.2 c.requires.fits.1

pub returns-clause-text : goal.returns-clause-text
returns-clause-text g c before is = ok_all c.follow.result (c.in_ok-put_reason_if.ensures before is)
