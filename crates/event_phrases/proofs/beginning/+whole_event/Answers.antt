use Rattle.std.proofs.Common.{rules, true, false, ◌≡◌, suc, ◌+◌, ◌<◌, arith, map, subst, sym, ap, ap₂, ◌∙◌}
use Rattle.std.proofs.lemmas.Result.{err_from_is_err_and}
use Rattle.syntax.specs.View.{shape}
use Rattle.values.specs.Tables.{behind, input}
use Rattle.values.specs.Worths.{condition}
use Rattle.values.specs.View.{Fails, Gives}
use Rattle.event_phrases.specs.Events.{whole_event}
use Rattle.event_phrases.specs.Forms.{EventPhrase, event_of, event_weight}
use Rattle.event_phrases.specs.Scopes.{within}
use Rattle.event_phrases.specs.Shapes.{plain_event}
use Rattle.event_phrases.specs.View.{beginning as beginning_of}
use Rattle.event_phrases.proofs.Beginnings.{choice_fails, choice_so}
use Rattle.event_phrases.proofs.Options.{some_truth}
use Rattle.syntax.proofs.Failing.{fails_none}
use Rattle.event_phrases.proofs.beginning.+whole_event.Goals as goal

pub whole_event-requires : goal.whole_event-requires
unfolding event_weight
whole_event-requires g t c κs within =
    let e : event_weight (event_of (shape c.args.tree.now)) ≡ suc (event_weight (event_of (shape c.in-Inside.inner.now))) = ap event_weight (sym c.in-Some.ensures ∙ ap plain_event c.in-Inside.is) in
    let m : event_weight (event_of (shape c.in-Inside.inner.now)) < event_weight (event_of (shape c.args.tree.now)) = omega (arith, e) in
    search (rules, m)

pub whole_event-requires-then-branch : goal.whole_event-requires-then-branch
unfolding event_weight
whole_event-requires-then-branch g t c κs within =
    let e : event_weight (event_of (shape c.args.tree.now)) ≡ suc (event_weight (event_of (shape c.in-Chosen.first.now)) + event_weight (event_of (shape c.in-Chosen.second.now))) = ap event_weight (sym c.in-Some.ensures ∙ ap plain_event c.in-Chosen.is) in
    let m : event_weight (event_of (shape c.in-Chosen.first.now)) < event_weight (event_of (shape c.args.tree.now)) = omega (arith, e) in
    search (rules, m)

pub whole_event-requires-else-branch : goal.whole_event-requires-else-branch
unfolding event_weight
whole_event-requires-else-branch g t c κs within =
    let e : event_weight (event_of (shape c.args.tree.now)) ≡ suc (event_weight (event_of (shape c.in-Chosen.first.now)) + event_weight (event_of (shape c.in-Chosen.second.now))) = ap event_weight (sym c.in-Some.ensures ∙ ap plain_event c.in-Chosen.is) in
    let m : event_weight (event_of (shape c.in-Chosen.second.now)) < event_weight (event_of (shape c.args.tree.now)) = omega (arith, e) in
    search (rules, m)

pub returns-in-None : goal.returns-in-None
unfolding whole_event
returns-in-None g t c =
    let s = g.G.GlobalScope.scope c.args.scope.now.global.now in
    let known = (within s (map input c.args.scope.now.inputs.items)).known in
    fails_none c.fault.result (whole_event s.channels known (event_of (shape c.args.tree.now))) (ap (whole_event s.channels known) (sym c.in-None.ensures))

pub returns-in-Event : goal.returns-in-Event
returns-in-Event g t c =
    let s = g.G.GlobalScope.scope c.args.scope.now.global.now in
    let known = (within s (map input c.args.scope.now.inputs.items)).known in
    subst (λ e. Gives (λ r. beginning_of r) c.event.result (whole_event s.channels known e)) (sym (ap plain_event c.in-Event.is) ∙ c.in-Some.ensures) c.event.ensures

pub returns-in-Inside : goal.returns-in-Inside
unfolding whole_event
returns-in-Inside g t c =
    let s = g.G.GlobalScope.scope c.args.scope.now.global.now in
    let known = (within s (map input c.args.scope.now.inputs.items)).known in
    subst (λ e. Gives (λ r. beginning_of r) c.whole_event.result (whole_event s.channels known e)) (sym (ap plain_event c.in-Inside.is) ∙ c.in-Some.ensures) c.whole_event.ensures

pub returns-in_err-truth-in-Chosen : goal.returns-in_err-truth-in-Chosen
returns-in_err-truth-in-Chosen g t c =
    let s = g.G.GlobalScope.scope c.args.scope.now.global.now in
    let known = (within s (map input c.args.scope.now.inputs.items)).known in
    let e = ap₂ (λ k is. behind k (map input is)) c.known.ensures c.deref.ensures.value in
    let b = c.in-Chosen in
    let so = sym (ap plain_event b.is) ∙ c.in-Some.ensures in
    let k = c.in_err-truth-in-Chosen.field-0.0 in
    let p = err_from_is_err_and c.from_residual.result c.from_residual.ensures.1 in
    rw (p.1, p.2) (subst (λ e. Fails k (whole_event s.channels known e)) so (choice_fails s.channels known (shape b.condition.now) (event_of (shape b.first.now)) (event_of (shape b.second.now)) k (subst (λ n. Fails k (condition n (shape b.condition.now))) e c.in_err-truth-in-Chosen.ensures)))

pub returns-then-branch : goal.returns-then-branch
returns-then-branch g t c =
    let s = g.G.GlobalScope.scope c.args.scope.now.global.now in
    let known = (within s (map input c.args.scope.now.inputs.items)).known in
    let e = ap₂ (λ k is. behind k (map input is)) c.known.ensures c.deref.ensures.value in
    let b = c.in-Chosen in
    let so = sym (ap plain_event b.is) ∙ c.in-Some.ensures in
    let h = choice_so s.channels known (shape b.condition.now) (event_of (shape b.first.now)) (event_of (shape b.second.now)) true (ap (λ k. condition k (shape b.condition.now)) (sym e) ∙ c.in_ok-truth-in-Chosen.ensures ∙ ap some_truth c.if-branch.true) in
    subst (λ o. Gives (λ r. beginning_of r) c.whole_event-then-branch.result o) (sym h ∙ ap (whole_event s.channels known) so) c.whole_event-then-branch.ensures

pub returns-else-branch : goal.returns-else-branch
returns-else-branch g t c =
    let s = g.G.GlobalScope.scope c.args.scope.now.global.now in
    let known = (within s (map input c.args.scope.now.inputs.items)).known in
    let e = ap₂ (λ k is. behind k (map input is)) c.known.ensures c.deref.ensures.value in
    let b = c.in-Chosen in
    let so = sym (ap plain_event b.is) ∙ c.in-Some.ensures in
    let h = choice_so s.channels known (shape b.condition.now) (event_of (shape b.first.now)) (event_of (shape b.second.now)) false (ap (λ k. condition k (shape b.condition.now)) (sym e) ∙ c.in_ok-truth-in-Chosen.ensures ∙ ap some_truth c.if-branch.false) in
    subst (λ o. Gives (λ r. beginning_of r) c.whole_event-else-branch.result o) (sym h ∙ ap (whole_event s.channels known) so) c.whole_event-else-branch.ensures
