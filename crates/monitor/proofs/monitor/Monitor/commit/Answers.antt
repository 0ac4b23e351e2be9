use Rattle.std.proofs.Common.{◌≡◌, ◌∙◌, ◌+◌, ◌++◌, [], ◌∷◌, List, length, sym, subst}
use Rattle.std.proofs.lemmas.List.{length_push}
use Rattle.alphabet.specs.declared.events.Event.{Event}
use Rattle.spaces.specs.Spaces.{Belongs}
use Rattle.monitor.specs.Monitors.{Follows}
use Rattle.monitor.proofs.Judgments.{follows-event, trace-longer, trace-refused}
use Rattle.monitor.proofs.monitor.Monitor.commit.Goals as goal

pub invariant_of-self : goal.invariant_of-self
invariant_of-self g c =
    let judged = c.judged.inside in
    let trace = c.self.inside.trace.items in
    let f : Follows c.self.inside.space trace judged.report.value judged.verdict judged.next = rw (← c.self.view_is, ← c.judged.view_is) at c.requires.follows in (
      subst (λ u. Belongs c.self.inside.space c.in-Some-next.states u) (sym c.and-self-inside.ensures)
          (follows-event c.self.inside.space trace judged.report.value judged.verdict judged.next c.in-Some.event c.in-Some-next.states f ((c.judged.invariant c.in-Some.event).1 c.in-Some.is) c.in-Some-next.is),
      subst (λ (u : List Event). c.self.inside.len + 1 ≡ length u) (sym c.and-self-inside.ensures) (subst (λ n. n + 1 ≡ length (trace ++ c.in-Some.event ∷ [])) (sym c.self.invariant.1) (sym (length_push trace c.in-Some.event))),
    )

pub returns-clause-trace : goal.returns-clause-trace
returns-clause-trace g c =
    let judged = c.judged.inside in
    let trace = c.self.inside.trace.items in
    let f : Follows c.self.inside.space trace judged.report.value judged.verdict judged.next = rw (← c.self.view_is, ← c.judged.view_is) at c.requires.follows in
    rw (← c.self.view_is, ← c.judged.view_is)
    (c.and-self-inside.ensures ∙ sym (trace-longer c.self.inside.space trace judged.report.value judged.verdict judged.next c.in-Some.event c.in-Some-next.states f ((c.judged.invariant c.in-Some.event).1 c.in-Some.is) c.in-Some-next.is))

pub returns-in_default-clause-trace : goal.returns-in_default-clause-trace
returns-in_default-clause-trace g c =
    let judged = c.judged.inside in
    rw (← c.judged.view_is) (sym (trace-refused c.args.self.now.trace judged.report.value judged.verdict judged.event c.judged.invariant c.in_default.not-Some))
