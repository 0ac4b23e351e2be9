use Rattle.attending.proofs.ReasonLemmas.{accepted_if, rejected_if}
use Rattle.attending.proofs.reasons.put_reason_if.Goals as goal

pub returns-then-entry : goal.returns-then-entry
returns-then-entry g c before is =
    accepted_if c.args.monitor.now.spec c.args.number before c.args.place c.args.entry.now.report c.args.entry.now.verdict c.args.text.now.items c.if-entry.true c.requires

pub returns : goal.returns
returns g c before is =
    rejected_if c.put_reason.result c.args.monitor.now.spec c.args.number before c.args.place c.args.entry.now.report c.args.entry.now.verdict c.args.text.now.items c.put_reason.new.text.items
    c.if-entry.false c.requires (c.put_reason.ensures before is)
