use Rattle.std.proofs.Common.{rules, true, false, ◌≡◌, suc, ◌+◌, ◌*◌, ◌<◌, arith, map, subst, sym, ap, ap₂, ◌∙◌}
use Rattle.std.proofs.lemmas.Result.{err_from_is_err_and}
use Rattle.syntax.specs.View.{shape}
use Rattle.values.specs.Tables.{behind, input}
use Rattle.values.specs.Worths.{condition}
use Rattle.values.specs.View.{Fails, Gives}
use Rattle.event_phrases.specs.Events.{event_set, masked}
use Rattle.event_phrases.specs.Forms.{SetPhrase, set_phrase_of, set_weight}
use Rattle.event_phrases.specs.Scopes.{within}
use Rattle.event_phrases.specs.Shapes.{plain_set}
use Rattle.event_phrases.proofs.EventSetLaws.{none_of_all, all_of_them, condition_fails, chosen_so, first_fails, second_fails, combined_made}
use Rattle.event_phrases.proofs.Options.{some_truth}
use Rattle.event_phrases.proofs.Scopes.{hidden, seen}
use Rattle.syntax.proofs.Failing.{fails_none}
use Rattle.event_phrases.proofs.sets.+sets.Goals as goal

pub event_set-set_of_phrase-requires : goal.event_set-set_of_phrase-requires
event_set-set_of_phrase-requires g t c κs within =
    let e : set_weight (plain_set c.in-Some.phrase) ≡ set_weight (set_phrase_of (shape c.args.tree.now)) = ap set_weight c.in-Some.ensures in
    let m : 2 * set_weight (plain_set c.in-Some.phrase) < 2 * set_weight (set_phrase_of (shape c.args.tree.now)) + 1 = omega (arith, e) in
    search (rules, m)

pub event_set-returns-in-Some : goal.event_set-returns-in-Some
event_set-returns-in-Some g t c =
    let s = g.G.GlobalScope.scope c.args.scope.now.global.now in
    let known = (within s (map input c.args.scope.now.inputs.items)).known in
    subst (λ p. Gives (λ s. s) c.set_of_phrase.result (masked s.channels (event_set s.channels known s.sets p))) c.in-Some.ensures c.set_of_phrase.ensures

pub event_set-returns-in-None : goal.event_set-returns-in-None
unfolding event_set masked
event_set-returns-in-None g t c =
    let s = g.G.GlobalScope.scope c.args.scope.now.global.now in
    let known = (within s (map input c.args.scope.now.inputs.items)).known in
    fails_none c.fault.result (masked s.channels (event_set s.channels known s.sets (set_phrase_of (shape c.args.tree.now)))) (ap (λ p. masked s.channels (event_set s.channels known s.sets p)) (sym c.in-None.ensures))

pub set_of_phrase-event_set-requires : goal.set_of_phrase-event_set-requires
unfolding set_weight
set_of_phrase-event_set-requires g t c κs within =
    let e : set_weight (plain_set c.args.phrase) ≡ suc (set_weight (set_phrase_of (shape c.in-Inside.inner.now))) = ap set_weight (ap plain_set c.in-Inside.is) in
    let m : 2 * set_weight (set_phrase_of (shape c.in-Inside.inner.now)) + 1 < 2 * set_weight (plain_set c.args.phrase) = omega (arith, e) in
    search (rules, m)

pub set_of_phrase-event_set-requires-in-Combined : goal.set_of_phrase-event_set-requires-in-Combined
unfolding set_weight
set_of_phrase-event_set-requires-in-Combined g t c κs within =
    let e : set_weight (plain_set c.args.phrase) ≡ suc (set_weight (set_phrase_of (shape c.in-Combined.first.now)) + set_weight (set_phrase_of (shape c.in-Combined.second.now))) = ap set_weight (ap plain_set c.in-Combined.is) in
    let m : 2 * set_weight (set_phrase_of (shape c.in-Combined.first.now)) + 1 < 2 * set_weight (plain_set c.args.phrase) = omega (arith, e) in
    search (rules, m)

pub set_of_phrase-event_set-requires-in-Combined-2 : goal.set_of_phrase-event_set-requires-in-Combined-2
unfolding set_weight
set_of_phrase-event_set-requires-in-Combined-2 g t c κs within =
    let e : set_weight (plain_set c.args.phrase) ≡ suc (set_weight (set_phrase_of (shape c.in-Combined.first.now)) + set_weight (set_phrase_of (shape c.in-Combined.second.now))) = ap set_weight (ap plain_set c.in-Combined.is) in
    let m : 2 * set_weight (set_phrase_of (shape c.in-Combined.second.now)) + 1 < 2 * set_weight (plain_set c.args.phrase) = omega (arith, e) in
    search (rules, m)

pub set_of_phrase-event_set-requires-then-branch : goal.set_of_phrase-event_set-requires-then-branch
unfolding set_weight
set_of_phrase-event_set-requires-then-branch g t c κs within =
    let e : set_weight (plain_set c.args.phrase) ≡ suc (set_weight (set_phrase_of (shape c.in-Chosen.first.now)) + set_weight (set_phrase_of (shape c.in-Chosen.second.now))) = ap set_weight (ap plain_set c.in-Chosen.is) in
    let m : 2 * set_weight (set_phrase_of (shape c.in-Chosen.first.now)) + 1 < 2 * set_weight (plain_set c.args.phrase) = omega (arith, e) in
    search (rules, m)

pub set_of_phrase-event_set-requires-else-branch : goal.set_of_phrase-event_set-requires-else-branch
unfolding set_weight
set_of_phrase-event_set-requires-else-branch g t c κs within =
    let e : set_weight (plain_set c.args.phrase) ≡ suc (set_weight (set_phrase_of (shape c.in-Chosen.first.now)) + set_weight (set_phrase_of (shape c.in-Chosen.second.now))) = ap set_weight (ap plain_set c.in-Chosen.is) in
    let m : 2 * set_weight (set_phrase_of (shape c.in-Chosen.second.now)) + 1 < 2 * set_weight (plain_set c.args.phrase) = omega (arith, e) in
    search (rules, m)

pub set_of_phrase-returns-in-Inside : goal.set_of_phrase-returns-in-Inside
unfolding event_set
set_of_phrase-returns-in-Inside g t c =
    let s = g.G.GlobalScope.scope c.args.scope.now.global.now in
    let known = (within s (map input c.args.scope.now.inputs.items)).known in
    let at = λ (p : SetPhrase). masked s.channels (event_set s.channels known s.sets p) in
    subst (λ o. Gives (λ s. s) c.event_set.result o) (sym (ap at (ap plain_set c.in-Inside.is))) c.event_set.ensures

pub set_of_phrase-returns-then-is_value : goal.set_of_phrase-returns-then-is_value
unfolding event_set masked
set_of_phrase-returns-then-is_value g t c =
    let s = g.G.GlobalScope.scope c.args.scope.now.global.now in
    let known = (within s (map input c.args.scope.now.inputs.items)).known in
    let at = λ (p : SetPhrase). masked s.channels (event_set s.channels known s.sets p) in
    fails_none c.fault.result (at (plain_set c.args.phrase)) (ap at (ap plain_set c.in-Called.is) ∙ ap (masked s.channels) (hidden (known c.in-Called.name.now) (s.sets c.in-Called.name.now) (sym c.is_value.ensures ∙ c.if-is_value.true)))

pub set_of_phrase-returns-in-Some : goal.set_of_phrase-returns-in-Some
unfolding event_set
set_of_phrase-returns-in-Some g t c =
    let s = g.G.GlobalScope.scope c.args.scope.now.global.now in
    let known = (within s (map input c.args.scope.now.inputs.items)).known in
    let at = λ (p : SetPhrase). masked s.channels (event_set s.channels known s.sets p) in
    ap at (ap plain_set c.in-Called.is) ∙ ap (masked s.channels) (seen (known c.in-Called.name.now) (s.sets c.in-Called.name.now) (sym c.is_value.ensures ∙ c.if-is_value.false)) ∙ sym c.in-Some.ensures

pub set_of_phrase-returns-in-None : goal.set_of_phrase-returns-in-None
unfolding event_set
set_of_phrase-returns-in-None g t c =
    let s = g.G.GlobalScope.scope c.args.scope.now.global.now in
    let known = (within s (map input c.args.scope.now.inputs.items)).known in
    let at = λ (p : SetPhrase). masked s.channels (event_set s.channels known s.sets p) in
    fails_none c.fault-in-None.result (at (plain_set c.args.phrase)) (ap at (ap plain_set c.in-Called.is) ∙ ap (masked s.channels) (seen (known c.in-Called.name.now) (s.sets c.in-Called.name.now) (sym c.is_value.ensures ∙ c.if-is_value.false)) ∙ sym c.in-None.ensures)

pub set_of_phrase-returns-in-Nothing : goal.set_of_phrase-returns-in-Nothing
unfolding event_set
set_of_phrase-returns-in-Nothing g t c =
    let s = g.G.GlobalScope.scope c.args.scope.now.global.now in
    let known = (within s (map input c.args.scope.now.inputs.items)).known in
    let at = λ (p : SetPhrase). masked s.channels (event_set s.channels known s.sets p) in
    ap at (ap plain_set c.in-Nothing.is) ∙ none_of_all s.channels c.empty.result c.empty.ensures

pub set_of_phrase-returns-in-Everything : goal.set_of_phrase-returns-in-Everything
unfolding event_set
set_of_phrase-returns-in-Everything g t c =
    let s = g.G.GlobalScope.scope c.args.scope.now.global.now in
    let known = (within s (map input c.args.scope.now.inputs.items)).known in
    let at = λ (p : SetPhrase). masked s.channels (event_set s.channels known s.sets p) in
    ap at (ap plain_set c.in-Everything.is) ∙ all_of_them s.channels c.sigma.result c.sigma.ensures

pub set_of_phrase-returns-in-Several : goal.set_of_phrase-returns-in-Several
unfolding event_set
set_of_phrase-returns-in-Several g t c =
    let s = g.G.GlobalScope.scope c.args.scope.now.global.now in
    let known = (within s (map input c.args.scope.now.inputs.items)).known in
    let at = λ (p : SetPhrase). masked s.channels (event_set s.channels known s.sets p) in
    subst (λ o. Gives (λ s. s) c.several.result o) (sym (ap at (ap plain_set c.in-Several.is))) c.several.ensures

pub set_of_phrase-returns-in_err-truth-in-Chosen : goal.set_of_phrase-returns-in_err-truth-in-Chosen
unfolding event_set
set_of_phrase-returns-in_err-truth-in-Chosen g t c =
    let s = g.G.GlobalScope.scope c.args.scope.now.global.now in
    let known = (within s (map input c.args.scope.now.inputs.items)).known in
    let at = λ (p : SetPhrase). masked s.channels (event_set s.channels known s.sets p) in
    let e = ap₂ (λ k is. behind k (map input is)) c.known.ensures c.deref.ensures.value in
    let b = c.in-Chosen in
    let r = set_phrase_of (shape b.first.now) in
    let u = set_phrase_of (shape b.second.now) in
    let k = c.in_err-truth-in-Chosen.field-0.0 in
    let p = err_from_is_err_and c.from_residual.result c.from_residual.ensures.1 in
    rw (p.1, p.2) (subst (λ o. Fails k o) (sym (ap at (ap plain_set b.is))) (condition_fails s.channels known s.sets (shape b.condition.now) r u k (subst (λ n. Fails k (condition n (shape b.condition.now))) e c.in_err-truth-in-Chosen.ensures)))

pub set_of_phrase-returns-then-branch : goal.set_of_phrase-returns-then-branch
unfolding event_set
set_of_phrase-returns-then-branch g t c =
    let s = g.G.GlobalScope.scope c.args.scope.now.global.now in
    let known = (within s (map input c.args.scope.now.inputs.items)).known in
    let at = λ (p : SetPhrase). masked s.channels (event_set s.channels known s.sets p) in
    let e = ap₂ (λ k is. behind k (map input is)) c.known.ensures c.deref.ensures.value in
    let b = c.in-Chosen in
    let r = set_phrase_of (shape b.first.now) in
    let u = set_phrase_of (shape b.second.now) in
    let h = chosen_so s.channels known s.sets (shape b.condition.now) r u true (ap (λ k. condition k (shape b.condition.now)) (sym e) ∙ c.in_ok-truth-in-Chosen.ensures ∙ ap some_truth c.if-branch.true) in
    subst (λ o. Gives (λ s. s) c.event_set-then-branch.result o) (sym (ap at (ap plain_set b.is) ∙ ap (masked s.channels) h)) c.event_set-then-branch.ensures

pub set_of_phrase-returns-else-branch : goal.set_of_phrase-returns-else-branch
unfolding event_set
set_of_phrase-returns-else-branch g t c =
    let s = g.G.GlobalScope.scope c.args.scope.now.global.now in
    let known = (within s (map input c.args.scope.now.inputs.items)).known in
    let at = λ (p : SetPhrase). masked s.channels (event_set s.channels known s.sets p) in
    let e = ap₂ (λ k is. behind k (map input is)) c.known.ensures c.deref.ensures.value in
    let b = c.in-Chosen in
    let r = set_phrase_of (shape b.first.now) in
    let u = set_phrase_of (shape b.second.now) in
    let h = chosen_so s.channels known s.sets (shape b.condition.now) r u false (ap (λ k. condition k (shape b.condition.now)) (sym e) ∙ c.in_ok-truth-in-Chosen.ensures ∙ ap some_truth c.if-branch.false) in
    subst (λ o. Gives (λ s. s) c.event_set-else-branch.result o) (sym (ap at (ap plain_set b.is) ∙ ap (masked s.channels) h)) c.event_set-else-branch.ensures

pub set_of_phrase-returns-in_err-first-in-Combined : goal.set_of_phrase-returns-in_err-first-in-Combined
unfolding event_set
set_of_phrase-returns-in_err-first-in-Combined g t c =
    let s = g.G.GlobalScope.scope c.args.scope.now.global.now in
    let known = (within s (map input c.args.scope.now.inputs.items)).known in
    let at = λ (p : SetPhrase). masked s.channels (event_set s.channels known s.sets p) in
    let b = c.in-Combined in
    let o = event_set s.channels known s.sets (set_phrase_of (shape b.first.now)) in
    let u = event_set s.channels known s.sets (set_phrase_of (shape b.second.now)) in
    let k = c.in_err-first-in-Combined.field-0.0 in
    let p = err_from_is_err_and c.from_residual-in_err-first-in-Combined.result c.from_residual-in_err-first-in-Combined.ensures.1 in
    rw (p.1, p.2) (subst (λ o. Fails k o) (sym (ap at (ap plain_set b.is))) (first_fails k s.channels o _ c.in_err-first-in-Combined.ensures))

pub set_of_phrase-returns-in_err-second-in-Combined : goal.set_of_phrase-returns-in_err-second-in-Combined
unfolding event_set
set_of_phrase-returns-in_err-second-in-Combined g t c =
    let s = g.G.GlobalScope.scope c.args.scope.now.global.now in
    let known = (within s (map input c.args.scope.now.inputs.items)).known in
    let at = λ (p : SetPhrase). masked s.channels (event_set s.channels known s.sets p) in
    let b = c.in-Combined in
    let o = event_set s.channels known s.sets (set_phrase_of (shape b.first.now)) in
    let u = event_set s.channels known s.sets (set_phrase_of (shape b.second.now)) in
    let k = c.in_err-second-in-Combined.field-0.0 in
    let p = err_from_is_err_and c.from_residual-in_err-second-in-Combined.result c.from_residual-in_err-second-in-Combined.ensures.1 in
    rw (p.1, p.2) (subst (λ o. Fails k o) (sym (ap at (ap plain_set b.is))) (second_fails k s.channels b.combination o u c.in_err-second-in-Combined.ensures))

pub set_of_phrase-returns-in_ok-second-in-Combined : goal.set_of_phrase-returns-in_ok-second-in-Combined
unfolding event_set
set_of_phrase-returns-in_ok-second-in-Combined g t c =
    let s = g.G.GlobalScope.scope c.args.scope.now.global.now in
    let known = (within s (map input c.args.scope.now.inputs.items)).known in
    let at = λ (p : SetPhrase). masked s.channels (event_set s.channels known s.sets p) in
    let b = c.in-Combined in
    let o = event_set s.channels known s.sets (set_phrase_of (shape b.first.now)) in
    let u = event_set s.channels known s.sets (set_phrase_of (shape b.second.now)) in
    ap at (ap plain_set b.is) ∙ combined_made s.channels b.combination o u c.in_ok-first-in-Combined.first c.in_ok-second-in-Combined.second c.combined.result c.in_ok-first-in-Combined.ensures c.in_ok-second-in-Combined.ensures c.combined.ensures
