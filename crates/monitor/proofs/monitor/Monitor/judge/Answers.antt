use Rattle.std.proofs.Common.{◌≡◌, ◌-◌, ◌^◌, ◌↔◌, IsTrue, List, refl, arith, subst}
use Rattle.alphabet.specs.declared.events.Event.{Event}
use Rattle.term.specs.Proc.{bodies_of}
use Rattle.term.specs.Specs.{Specified}
use Rattle.term.specs.Verdict.{Verdict}
use Rattle.spaces.specs.Spaces.{Belongs}
use Rattle.spaces.proofs.Growing.{belongs-on}
use Rattle.monitor.specs.Monitors.{IsJudgment, IsOf, Monitoring}
use Rattle.monitor.proofs.Judgments.{if-ok, judgment-of}
use Rattle.monitor.proofs.monitor.Monitor.judge.Goals as goal

pub invariant_of-self : goal.invariant_of-self
invariant_of-self g c =
    (belongs-on c.self.inside.space c.judge_by.new.space c.judge_by.ensures.grown c.self.inside.states c.self.inside.trace.items c.self.invariant.0, c.self.invariant.1)

pub returns-clause-report : goal.returns-clause-report
returns-clause-report g c =
    let t = c.judge_by.new.space in
    let u = c.self.inside.trace.items in
    if-ok (IsJudgment t u c.args.report.now) (λ j. j.report ≡ c.args.report.now) c.judge_by.result (λ j k. k.report) (c.judge_by.ensures.judged u c.self.invariant.0)

pub returns-clause-verdict : goal.returns-clause-verdict
returns-clause-verdict g c =
    let t = c.judge_by.new.space in
    let u = c.self.inside.trace.items in
    rw (← c.self.view_is)
    (if-ok (IsJudgment t u c.args.report.now) (λ j. IsTrue j.verdict ↔ Verdict (bodies_of c.self.inside.space.spec.bodies) u c.args.report.now) c.judge_by.result
    (λ j k. subst (λ (s : Specified). IsTrue j.verdict ↔ Verdict (bodies_of s.bodies) u c.args.report.now) c.judge_by.ensures.grown.spec k.verdict) (c.judge_by.ensures.judged u c.self.invariant.0))

pub returns-clause-judged : goal.returns-clause-judged
returns-clause-judged g c =
    let t = c.judge_by.new.space in
    let u = c.self.inside.trace.items in
    let m : Monitoring = record { spec = t.spec; trace = u; room = 2 ^ 64 - 1 - c.self.inside.len; sets = t.sets } in
    if-ok (IsJudgment t u c.args.report.now) (IsOf m) c.judge_by.result
    (judgment-of t u c.args.report.now m refl refl (omega (arith, c.self.ranges, c.if-self.false))) (c.judge_by.ensures.judged u c.self.invariant.0)

pub returns-clause-within : goal.returns-clause-within
returns-clause-within g c = rw (← c.self.view_is) (c.judge_by.ensures.within c.self.inside.trace.items c.self.invariant.0)

pub returns-clause-limit : goal.returns-clause-limit
returns-clause-limit g c = rw (← c.self.view_is) (c.judge_by.ensures.limit c.self.inside.trace.items c.self.invariant.0)
