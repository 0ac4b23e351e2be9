use Rattle.std.proofs.Common.{None, refl, ◌∙◌, subst, sym}
use Rattle.alphabet.specs.declared.events.Report.TheVariants as report
use Rattle.spaces.proofs.Growing.{grew-same}
use Rattle.monitor.specs.Monitors.{IsJudgment, MeetsNone, Stops}
use Rattle.monitor.proofs.Judgments.{judged-event}
use Rattle.monitor.proofs.monitor.judge_by.Goals as goal

pub returns-in-Ok-clause-judged : goal.returns-in-Ok-clause-judged
returns-in-Ok-clause-judged g c =
    λ u b.
    subst (λ r. IsJudgment c.advance.new.space u c.args.report.now (record { report = r; verdict = c.is_some.result; next = c.in-Ok.next })) (sym (c.of.ensures ∙ c.in-Event.is))
    (subst (λ r. IsJudgment c.advance.new.space u r (record { report = report.Event c.in-Event.event; verdict = c.is_some.result; next = c.in-Ok.next })) (sym c.in-Event.is)
    (judged-event c.args.space.now c.advance.new.space u c.in-Event.event c.is_some.result c.in-Ok.next c.in-Ok.ensures.space c.is_some.ensures (c.in-Ok.ensures.none u b) (c.in-Ok.ensures.some u b)))

pub returns-in-Ok-clause-within : goal.returns-in-Ok-clause-within
returns-in-Ok-clause-within g c = λ u b. subst (λ r. MeetsNone c.args.space.now.spec u r) (sym c.in-Event.is) (c.in-Ok.ensures.within u b)

pub returns-in-Err-clause-limit : goal.returns-in-Err-clause-limit
returns-in-Err-clause-limit g c = λ u b. subst (λ r. Stops c.args.space.now.spec u r c.in-Err.fault) (sym c.in-Event.is) (c.in-Err.ensures.limit u b)

pub returns-in-Refusal-clause-judged : goal.returns-in-Refusal-clause-judged
returns-in-Refusal-clause-judged g c =
    λ u b.
    subst (λ r. IsJudgment c.args.space.now u c.args.report.now (record { report = r; verdict = c.refuses.result; next = None })) (sym (c.of-in-Refusal.ensures ∙ c.in-Refusal.is))
    (subst (λ r. IsJudgment c.args.space.now u r (record { report = report.Refusal c.in-Refusal.set; verdict = c.refuses.result; next = None })) (sym c.in-Refusal.is)
    (record { report = refl; verdict = c.refuses.ensures u b; follows = tt }))

pub returns-in-Refusal-clause-grown : goal.returns-in-Refusal-clause-grown
returns-in-Refusal-clause-grown g c = grew-same c.args.space.now
