use Rattle.std.proofs.Common.{◌∙◌}
use Rattle.term.specs.Proc.{bodies_of}
use Rattle.term.specs.Verdict.{Verdict}
use Rattle.history.proofs.Limits.{report_refused}
use Rattle.shown.proofs.EntryLines.{both_true, moved, refusal_unmoved, unmoved}
use Rattle.shown.proofs.entries.follow.Goals as goal

pub returns-then-not-entry-clause-trace : goal.returns-then-not-entry-clause-trace
returns-then-not-entry-clause-trace g c before is = unmoved before c.args.entry.now c.args.monitor.now.trace c.if-not-entry.true is

pub refused-requires : goal.refused-requires
refused-requires g c =
    report_refused c.args.monitor.now.spec c.args.monitor.now.trace c.args.entry.now.report c.in-Err.fault c.requires.within c.in-Err.ensures.limit

pub returns-in-Ok-clause-trace : goal.returns-in-Ok-clause-trace
returns-in-Ok-clause-trace g c before is =
    let e = c.args.entry.now in
    c.forget.ensures.trace
    ∙ moved before e c.judge.new.self.trace c.args.monitor.now.trace c.commit.new.self.trace c.in-Ok.judged.report c.in-Ok.judged.verdict
    c.commit.ensures.trace c.judge.ensures.trace is c.in-Ok.ensures.report
    (both_true c.in-Ok.judged.verdict e.verdict (Verdict (bodies_of c.args.monitor.now.spec.bodies) c.args.monitor.now.trace e.report) c.in-Ok.ensures.verdict c.requires.verdict c.if-not-entry.false)

pub returns-in-Refusal-clause-trace : goal.returns-in-Refusal-clause-trace
returns-in-Refusal-clause-trace g c before is = refusal_unmoved before c.args.entry.now c.in-Refusal.field-0 c.args.monitor.now.trace c.in-Refusal.is is
