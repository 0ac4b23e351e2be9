use Rattle.std.proofs.Common.{rules, arith, ◌≡◌, Some, suc, ◌+◌, ◌*◌, ◌<◌, ◌≤◌, IfSome, length, drop, map, sym, ap, subst, true, false, ◌∙◌}
use Rattle.std.specs.Option.{option_map}
use Rattle.std.proofs.lemmas.Result.{err_from_is_err_and}
use Rattle.alphabet.specs.Channels.{events}
use Rattle.syntax.specs.Parsing.{syntaxes}
use Rattle.syntax.specs.View.{shape, shapes}
use Rattle.syntax.proofs.Failing.{fails_none}
use Rattle.values.specs.Tables.{input}
use Rattle.values.specs.View.{Gives, Fails}
use Rattle.event_phrases.specs.Fitting.{event_fits}
use Rattle.event_phrases.specs.Forms.{field_of}
use Rattle.event_phrases.specs.Leading.{led_fits}
use Rattle.event_phrases.specs.Scopes.{within}
use Rattle.event_phrases.specs.View.{listed}
use Rattle.event_phrases.proofs.FirstValues.{none_if}
use Rattle.denotation.specs.Bodies.{size}
use Rattle.denotation.specs.Phrases.{phrase_of, weight, denoted, branches, composed}
use Rattle.denotation.specs.Places.{from_scope, innermost_first}
use Rattle.denotation.specs.Rooms.{fit, fits, all_fit}
use Rattle.denotation.specs.Shapes.{plain, plain_between, or_stops}
use Rattle.denotation.specs.View.{body}
use Rattle.denotation.specs.Walks.{on_visits, visits_after}
use Rattle.denotation.proofs.Steps.{nothing_denoted, hiding_first, hiding_set, hiding_so, renaming_first, renaming_on, conditional_fails, conditional_so, joined_first, joined_between, joined_second, joined_so, no_prefix, branches_fail, branches_made, no_first, replicated_fails, replicated_so, walk_end, stands_fails, no_next, next_found, no_process, one_process, put_behind}
use Rattle.denotation.proofs.Turns.{none_before, some_fit, some_branch, led_branches, turn_fails, last_turn, next_turn, fit_fails, none_fits, body_fails, event_fails, event_made}
use Rattle.denotation.proofs.Walks.{not_more}
use Rattle.denotation.proofs.making.+making.Goals as goal

pub joined_phrases-process-requires : goal.joined_phrases-process-requires
joined_phrases-process-requires g t c κs within =
    let m : 6 * weight (phrase_of (shape c.args.first.now)) + 1 < 6 * (weight (phrase_of (shape c.args.first.now)) + weight (phrase_of (shape c.args.second.now))) + 5 = omega arith in
    search (rules, m)

pub joined_phrases-process-requires-2 : goal.joined_phrases-process-requires-2
joined_phrases-process-requires-2 g t c κs within =
    let m : 6 * weight (phrase_of (shape c.args.second.now)) + 1 < 6 * (weight (phrase_of (shape c.args.first.now)) + weight (phrase_of (shape c.args.second.now))) + 5 = omega arith in
    search (rules, m)

pub joined_phrases-returns-in_err-first : goal.joined_phrases-returns-in_err-first
joined_phrases-returns-in_err-first g t c =
    let s = within (g.G.GlobalScope.scope c.args.scope.now.global.now) (map input c.args.scope.now.inputs.items) in
    let p = err_from_is_err_and c.from_residual.result c.from_residual.ensures.1 in
    rw (p.1, p.2) (joined_first s c.args.room.now (plain_between c.args.between) (phrase_of (shape c.args.first.now)) (phrase_of (shape c.args.second.now)) c.in_err-first.field-0.0 c.in_err-first.ensures)

pub joined_phrases-returns-in_err-operation : goal.joined_phrases-returns-in_err-operation
joined_phrases-returns-in_err-operation g t c =
    let s = within (g.G.GlobalScope.scope c.args.scope.now.global.now) (map input c.args.scope.now.inputs.items) in
    let p = err_from_is_err_and c.from_residual-in_err-operation.result c.from_residual-in_err-operation.ensures.1 in
    rw (p.1, p.2) (joined_between s c.args.room.now (plain_between c.args.between) (phrase_of (shape c.args.first.now)) (phrase_of (shape c.args.second.now)) (body c.in_ok-first.first, c.process.new.room) c.in_ok-first.ensures c.in_err-operation.field-0.0 c.in_err-operation.ensures)

pub joined_phrases-returns-in_err-second : goal.joined_phrases-returns-in_err-second
joined_phrases-returns-in_err-second g t c =
    let s = within (g.G.GlobalScope.scope c.args.scope.now.global.now) (map input c.args.scope.now.inputs.items) in
    let p = err_from_is_err_and c.from_residual-in_err-second.result c.from_residual-in_err-second.ensures.1 in
    rw (p.1, p.2) (joined_second s c.args.room.now (plain_between c.args.between) (phrase_of (shape c.args.first.now)) (phrase_of (shape c.args.second.now)) (body c.in_ok-first.first, c.process.new.room) c.in_ok-first.ensures c.in_ok-operation.operation c.in_ok-operation.ensures c.in_err-second.field-0.0 c.in_err-second.ensures)

pub joined_phrases-returns : goal.joined_phrases-returns
unfolding composed
joined_phrases-returns g t c =
    let s = within (g.G.GlobalScope.scope c.args.scope.now.global.now) (map input c.args.scope.now.inputs.items) in
    subst (λ o. Gives (λ b. (body b, c.composed.new.room)) c.composed.result o)
    (sym (joined_so s c.args.room.now (plain_between c.args.between) (phrase_of (shape c.args.first.now)) (phrase_of (shape c.args.second.now)) (body c.in_ok-first.first, c.process.new.room) c.in_ok-first.ensures c.in_ok-operation.operation c.in_ok-operation.ensures (body c.in_ok-second.second, c.process-2.new.room) c.in_ok-second.ensures)) c.composed.ensures

pub made-process-requires : goal.made-process-requires
unfolding weight
made-process-requires g t c κs within =
    let e : weight (plain c.args.phrase) ≡ suc (weight (phrase_of (shape c.in-Inside.inner.now))) = ap weight (ap plain c.in-Inside.is) in
    let m : 6 * weight (phrase_of (shape c.in-Inside.inner.now)) + 1 < 6 * weight (plain c.args.phrase) = omega (arith, e) in
    search (rules, m)

pub made-prefixed-requires : goal.made-prefixed-requires
unfolding weight
made-prefixed-requires g t c κs within =
    let e : weight (plain c.args.phrase) ≡ suc (weight (phrase_of (shape c.in-Prefix.then.now))) = ap weight (ap plain c.in-Prefix.is) in
    let m : 6 * weight (phrase_of (shape c.in-Prefix.then.now)) + 5 < 6 * weight (plain c.args.phrase) = omega (arith, e) in
    search (rules, m)

pub made-joined_phrases-requires : goal.made-joined_phrases-requires
unfolding weight
made-joined_phrases-requires g t c κs within =
    let e : weight (plain c.args.phrase) ≡ suc (weight (phrase_of (shape c.in-Joined.first.now)) + weight (phrase_of (shape c.in-Joined.second.now))) = ap weight (ap plain c.in-Joined.is) in
    let m : 6 * (weight (phrase_of (shape c.in-Joined.first.now)) + weight (phrase_of (shape c.in-Joined.second.now))) + 5 < 6 * weight (plain c.args.phrase) = omega (arith, e) in
    search (rules, m)

pub made-hiding_phrase-requires : goal.made-hiding_phrase-requires
unfolding weight
made-hiding_phrase-requires g t c κs within =
    let e : weight (plain c.args.phrase) ≡ suc (weight (phrase_of (shape c.in-Hiding.process_tree.now))) = ap weight (ap plain c.in-Hiding.is) in
    let m : 6 * weight (phrase_of (shape c.in-Hiding.process_tree.now)) + 5 < 6 * weight (plain c.args.phrase) = omega (arith, e) in
    search (rules, m)

pub made-renaming_phrase-requires : goal.made-renaming_phrase-requires
unfolding weight
made-renaming_phrase-requires g t c κs within =
    let e : weight (plain c.args.phrase) ≡ suc (weight (phrase_of (shape c.in-Renaming.process_tree.now))) = ap weight (ap plain c.in-Renaming.is) in
    let m : 6 * weight (phrase_of (shape c.in-Renaming.process_tree.now)) + 5 < 6 * weight (plain c.args.phrase) = omega (arith, e) in
    search (rules, m)

pub made-conditional_phrase-requires : goal.made-conditional_phrase-requires
unfolding weight
made-conditional_phrase-requires g t c κs within =
    let e : weight (plain c.args.phrase) ≡ suc (weight (phrase_of (shape c.in-Conditional.first.now)) + weight (or_stops c.in-Conditional.second)) = ap weight (ap plain c.in-Conditional.is) in
    let m : 6 * (weight (phrase_of (shape c.in-Conditional.first.now)) + weight (or_stops c.in-Conditional.second)) + 5 < 6 * weight (plain c.args.phrase) = omega (arith, e) in
    search (rules, m)

pub made-replicated_phrase-requires : goal.made-replicated_phrase-requires
unfolding weight
made-replicated_phrase-requires g t c κs within =
    let e : weight (plain c.args.phrase) ≡ suc (weight (phrase_of (shape c.in-Replicated.then.now))) = ap weight (ap plain c.in-Replicated.is) in
    let m : 6 * weight (phrase_of (shape c.in-Replicated.then.now)) + 5 < 6 * weight (plain c.args.phrase) = omega (arith, e) in
    search (rules, m)

pub made-returns-in-Stop : goal.made-returns-in-Stop
unfolding denoted fit size
made-returns-in-Stop g t c =
    let s = within (g.G.GlobalScope.scope c.args.scope.now.global.now) (map input c.args.scope.now.inputs.items) in
    subst (λ o. Gives (λ b. (body b, c.stop.new.room)) c.stop.result o)
    (sym (ap (λ q. fits c.args.room.now (denoted q s)) (ap plain c.in-Stop.is))) c.stop.ensures

pub made-returns-in-Skip : goal.made-returns-in-Skip
unfolding denoted fit size
made-returns-in-Skip g t c =
    let s = within (g.G.GlobalScope.scope c.args.scope.now.global.now) (map input c.args.scope.now.inputs.items) in
    subst (λ o. Gives (λ b. (body b, c.skip.new.room)) c.skip.result o)
    (sym (ap (λ q. fits c.args.room.now (denoted q s)) (ap plain c.in-Skip.is))) c.skip.ensures

pub made-returns-in-Called : goal.made-returns-in-Called
made-returns-in-Called g t c =
    let s = within (g.G.GlobalScope.scope c.args.scope.now.global.now) (map input c.args.scope.now.inputs.items) in
    subst (λ o. Gives (λ b. (body b, c.called.new.room)) c.called.result o)
    (sym (ap (λ q. fits c.args.room.now (denoted q s)) (ap plain c.in-Called.is))) c.called.ensures

pub made-returns-in-Hiding : goal.made-returns-in-Hiding
made-returns-in-Hiding g t c =
    let s = within (g.G.GlobalScope.scope c.args.scope.now.global.now) (map input c.args.scope.now.inputs.items) in
    subst (λ o. Gives (λ b. (body b, c.hiding_phrase.new.room)) c.hiding_phrase.result o)
    (sym (ap (λ q. fits c.args.room.now (denoted q s)) (ap plain c.in-Hiding.is))) c.hiding_phrase.ensures

pub made-returns-in-Renaming : goal.made-returns-in-Renaming
made-returns-in-Renaming g t c =
    let s = within (g.G.GlobalScope.scope c.args.scope.now.global.now) (map input c.args.scope.now.inputs.items) in
    subst (λ o. Gives (λ b. (body b, c.renaming_phrase.new.room)) c.renaming_phrase.result o)
    (sym (ap (λ q. fits c.args.room.now (denoted q s)) (ap plain c.in-Renaming.is))) c.renaming_phrase.ensures

pub made-returns-in-Conditional : goal.made-returns-in-Conditional
made-returns-in-Conditional g t c =
    let s = within (g.G.GlobalScope.scope c.args.scope.now.global.now) (map input c.args.scope.now.inputs.items) in
    subst (λ o. Gives (λ b. (body b, c.conditional_phrase.new.room)) c.conditional_phrase.result o)
    (sym (ap (λ q. fits c.args.room.now (denoted q s)) (ap plain c.in-Conditional.is))) c.conditional_phrase.ensures

pub made-returns-in-Inside : goal.made-returns-in-Inside
unfolding denoted
made-returns-in-Inside g t c =
    let s = within (g.G.GlobalScope.scope c.args.scope.now.global.now) (map input c.args.scope.now.inputs.items) in
    subst (λ o. Gives (λ b. (body b, c.process.new.room)) c.process.result o)
    (sym (ap (λ q. fits c.args.room.now (denoted q s)) (ap plain c.in-Inside.is))) c.process.ensures

pub made-returns-in-Prefix : goal.made-returns-in-Prefix
unfolding denoted
made-returns-in-Prefix g t c =
    let s = within (g.G.GlobalScope.scope c.args.scope.now.global.now) (map input c.args.scope.now.inputs.items) in
    subst (λ o. Gives (λ b. (body b, c.prefixed.new.room)) c.prefixed.result o)
    (sym (ap (λ q. fits c.args.room.now (denoted q s)) (ap plain c.in-Prefix.is))) c.prefixed.ensures

pub made-returns-in-Joined : goal.made-returns-in-Joined
made-returns-in-Joined g t c =
    let s = within (g.G.GlobalScope.scope c.args.scope.now.global.now) (map input c.args.scope.now.inputs.items) in
    subst (λ o. Gives (λ b. (body b, c.joined_phrases.new.room)) c.joined_phrases.result o)
    (sym (ap (λ q. fits c.args.room.now (denoted q s)) (ap plain c.in-Joined.is))) c.joined_phrases.ensures

pub made-returns-in-Calling : goal.made-returns-in-Calling
unfolding denoted
made-returns-in-Calling g t c =
    let s = within (g.G.GlobalScope.scope c.args.scope.now.global.now) (map input c.args.scope.now.inputs.items) in
    subst (λ o. Gives (λ b. (body b, c.called_with.new.room)) c.called_with.result o)
    (sym (ap (λ q. fits c.args.room.now (denoted q s)) (ap plain c.in-Calling.is))) c.called_with.ensures

pub made-returns-in-Replicated : goal.made-returns-in-Replicated
made-returns-in-Replicated g t c =
    let s = within (g.G.GlobalScope.scope c.args.scope.now.global.now) (map input c.args.scope.now.inputs.items) in
    subst (λ o. Gives (λ b. (body b, c.replicated_phrase.new.room)) c.replicated_phrase.result o)
    (sym (ap (λ q. fits c.args.room.now (denoted q s)) (ap plain c.in-Replicated.is))) c.replicated_phrase.ensures

pub process-made-requires : goal.process-made-requires
process-made-requires g t c κs within =
    let e : weight (plain c.in-Some.phrase) ≡ weight (phrase_of (shape c.args.tree.now)) = ap weight c.in-Some.ensures in
    let m : 6 * weight (plain c.in-Some.phrase) < 6 * weight (phrase_of (shape c.args.tree.now)) + 1 = omega (arith, e) in
    search (rules, m)

pub process-returns-in-Some : goal.process-returns-in-Some
process-returns-in-Some g t c =
    let s = within (g.G.GlobalScope.scope c.args.scope.now.global.now) (map input c.args.scope.now.inputs.items) in
    subst (λ o. Gives (λ b. (body b, c.made.new.room)) c.made.result o)
    (sym (ap (λ q. fits c.args.room.now (denoted q s)) (sym c.in-Some.ensures))) c.made.ensures

pub process-returns-in-Some-event_parts : goal.process-returns-in-Some-event_parts
process-returns-in-Some-event_parts g t c =
    let s = within (g.G.GlobalScope.scope c.args.scope.now.global.now) (map input c.args.scope.now.inputs.items) in
    fails_none c.no_channel.result (fits c.args.room.now (denoted (phrase_of (shape c.args.tree.now)) s)) (nothing_denoted s c.args.room.now (phrase_of (shape c.args.tree.now)) c.in-None.ensures)

pub process-returns-in-None-event_parts : goal.process-returns-in-None-event_parts
process-returns-in-None-event_parts g t c =
    let s = within (g.G.GlobalScope.scope c.args.scope.now.global.now) (map input c.args.scope.now.inputs.items) in
    fails_none c.fault.result (fits c.args.room.now (denoted (phrase_of (shape c.args.tree.now)) s)) (nothing_denoted s c.args.room.now (phrase_of (shape c.args.tree.now)) c.in-None.ensures)

pub prefixed-returns-in_err-prefix : goal.prefixed-returns-in_err-prefix
prefixed-returns-in_err-prefix g t c =
    let s = within (g.G.GlobalScope.scope c.args.scope.now.global.now) (map input c.args.scope.now.inputs.items) in
    let p = err_from_is_err_and c.from_residual.result c.from_residual.ensures.1 in
    rw (p.1, p.2) (no_prefix s c.args.room.now (shape c.args.event.now) (denoted (phrase_of (shape c.args.then.now))) c.in_err-prefix.field-0.0 c.in_err-prefix.ensures.parts)

pub prefixed-branches-requires : goal.prefixed-branches-requires
prefixed-branches-requires g t c κs within =
    let e : weight (phrase_of (shape c.in_ok-prefix.prefix.then.now)) ≡ weight (phrase_of (shape c.args.then.now)) = ap (λ t. weight (phrase_of (shape t))) c.in_ok-prefix.ensures.then in
    let m : 6 * weight (phrase_of (shape c.in_ok-prefix.prefix.then.now)) + 4 < 6 * weight (phrase_of (shape c.args.then.now)) + 5 = omega (arith, e) in
    search (rules, m)

pub prefixed-returns-in_err-drafts : goal.prefixed-returns-in_err-drafts
prefixed-returns-in_err-drafts g t c =
    let s = within (g.G.GlobalScope.scope c.args.scope.now.global.now) (map input c.args.scope.now.inputs.items) in
    let q = c.in_ok-prefix.prefix in
    let sets = map (λ v. listed v.items) q.sets.now in
    let same : denoted (phrase_of (shape q.then.now)) ≡ denoted (phrase_of (shape c.args.then.now)) = ap (λ t. denoted (phrase_of (shape t))) c.in_ok-prefix.ensures.then in
    let all = led_branches (denoted (phrase_of (shape q.then.now))) q.channel.now (map field_of (shapes q.fields.now)) sets s (listed q.leading.items) 0 (events s.channels) c.in_ok-prefix.ensures.leading
    ∙ ap (λ next. branches (event_fits q.channel.now (map field_of (shapes q.fields.now)) sets s) next 0 (events s.channels)) same in
    let k = c.in_err-drafts.field-0.0 in
    let p = err_from_is_err_and c.from_residual-in_err-drafts.result c.from_residual-in_err-drafts.ensures.1 in
    rw (p.1, p.2) (branches_fail s c.args.room.now (shape c.args.event.now) (denoted (phrase_of (shape c.args.then.now))) q.channel.now (map field_of (shapes q.fields.now)) sets c.in_ok-prefix.ensures.parts k (subst (λ o. Fails k (all_fit c.args.room.now o)) all c.in_err-drafts.ensures))

pub prefixed-returns : goal.prefixed-returns
prefixed-returns g t c =
    let s = within (g.G.GlobalScope.scope c.args.scope.now.global.now) (map input c.args.scope.now.inputs.items) in
    let q = c.in_ok-prefix.prefix in
    let sets = map (λ v. listed v.items) q.sets.now in
    let same : denoted (phrase_of (shape q.then.now)) ≡ denoted (phrase_of (shape c.args.then.now)) = ap (λ t. denoted (phrase_of (shape t))) c.in_ok-prefix.ensures.then in
    let all = led_branches (denoted (phrase_of (shape q.then.now))) q.channel.now (map field_of (shapes q.fields.now)) sets s (listed q.leading.items) 0 (events s.channels) c.in_ok-prefix.ensures.leading
    ∙ ap (λ next. branches (event_fits q.channel.now (map field_of (shapes q.fields.now)) sets s) next 0 (events s.channels)) same in
    subst (λ o. Gives (λ b. (body b, c.chosen.new.room)) c.chosen.result o)
    (sym (branches_made s c.args.room.now (shape c.args.event.now) (denoted (phrase_of (shape c.args.then.now))) q.channel.now (map field_of (shapes q.fields.now)) sets c.in_ok-prefix.ensures.parts (map body c.in_ok-drafts.drafts.items, c.branches.new.room) (sym (ap (all_fit c.args.room.now) all) ∙ c.in_ok-drafts.ensures))) c.chosen.ensures

pub next_branch-returns-in_err-found-clause-branch : goal.next_branch-returns-in_err-found-clause-branch
next_branch-returns-in_err-found-clause-branch g t c =
    let s = within (g.G.GlobalScope.scope c.args.scope.now.global.now) (map input c.args.scope.now.inputs.items) in
    let es = events (g.G.GlobalScope.scope c.args.scope.now.global.now).channels in
    let q = c.args.prefix.now in
    let test = led_fits q.channel.now (listed q.leading.items) (map field_of (shapes q.fields.now)) (map (λ v. listed v.items) q.sets.now) s in
    let next = denoted (phrase_of (shape q.then.now)) in
    let p = err_from_is_err_and c.from_residual.result c.from_residual.ensures.1 in
    rw (p.1, p.2) (fit_fails test next c.args.from (drop c.args.from es) c.args.room.now c.in_err-found.field-0.0 c.in_err-found.ensures.first)

pub next_branch-returns-in-None-clause-branch : goal.next_branch-returns-in-None-clause-branch
next_branch-returns-in-None-clause-branch g t c =
    let s = within (g.G.GlobalScope.scope c.args.scope.now.global.now) (map input c.args.scope.now.inputs.items) in
    let es = events (g.G.GlobalScope.scope c.args.scope.now.global.now).channels in
    let q = c.args.prefix.now in
    let test = led_fits q.channel.now (listed q.leading.items) (map field_of (shapes q.fields.now)) (map (λ v. listed v.items) q.sets.now) s in
    let next = denoted (phrase_of (shape q.then.now)) in
    none_fits test next c.args.from (drop c.args.from es) c.args.room.now (c.in_ok-found.ensures.first ∙ ap (λ o. some_fit (option_map (λ x. (x.0, within (g.G.GlobalScope.scope c.args.scope.now.global.now) (map input x.1.items), drop (suc x.0) es)) o)) c.in-None.is)

pub next_branch-process-requires : goal.next_branch-process-requires
next_branch-process-requires g t c κs within =
    let m : 6 * weight (phrase_of (shape c.args.prefix.now.then.now)) + 1 < 6 * weight (phrase_of (shape c.args.prefix.now.then.now)) + 3 = omega arith in
    search (rules, m)

pub next_branch-returns-in_err-then-in-Some-clause-branch : goal.next_branch-returns-in_err-then-in-Some-clause-branch
next_branch-returns-in_err-then-in-Some-clause-branch g t c =
    let s = within (g.G.GlobalScope.scope c.args.scope.now.global.now) (map input c.args.scope.now.inputs.items) in
    let es = events (g.G.GlobalScope.scope c.args.scope.now.global.now).channels in
    let q = c.args.prefix.now in
    let test = led_fits q.channel.now (listed q.leading.items) (map field_of (shapes q.fields.now)) (map (λ v. listed v.items) q.sets.now) s in
    let next = denoted (phrase_of (shape q.then.now)) in
    let number = c.in-Some.number in
    let inner = within (g.G.GlobalScope.scope c.args.scope.now.global.now) (map input c.in-Some.inputs.items) in
    let found = c.in_ok-found.ensures.first ∙ ap (λ o. some_fit (option_map (λ x. (x.0, within (g.G.GlobalScope.scope c.args.scope.now.global.now) (map input x.1.items), drop (suc x.0) es)) o)) c.in-Some.is in
    let p = err_from_is_err_and c.from_residual-in_err-then-in-Some.result c.from_residual-in_err-then-in-Some.ensures.1 in
    rw (p.1, p.2) (body_fails test next c.args.from (drop c.args.from es) c.args.room.now number inner (drop (suc number) es) found c.in_err-then-in-Some.field-0.0 c.in_err-then-in-Some.ensures)

pub next_branch-behind_event-requires : goal.next_branch-behind_event-requires
next_branch-behind_event-requires g t c =
    let facts = subst (λ o. IfSome o (λ x. (c.args.from ≤ x.0) × (x.0 < 256))) c.in-Some.is c.in_ok-found.ensures.number in
    facts.1

pub next_branch-returns-in_err-branch-in-Some-clause-branch : goal.next_branch-returns-in_err-branch-in-Some-clause-branch
next_branch-returns-in_err-branch-in-Some-clause-branch g t c =
    let s = within (g.G.GlobalScope.scope c.args.scope.now.global.now) (map input c.args.scope.now.inputs.items) in
    let es = events (g.G.GlobalScope.scope c.args.scope.now.global.now).channels in
    let q = c.args.prefix.now in
    let test = led_fits q.channel.now (listed q.leading.items) (map field_of (shapes q.fields.now)) (map (λ v. listed v.items) q.sets.now) s in
    let next = denoted (phrase_of (shape q.then.now)) in
    let number = c.in-Some.number in
    let inner = within (g.G.GlobalScope.scope c.args.scope.now.global.now) (map input c.in-Some.inputs.items) in
    let found = c.in_ok-found.ensures.first ∙ ap (λ o. some_fit (option_map (λ x. (x.0, within (g.G.GlobalScope.scope c.args.scope.now.global.now) (map input x.1.items), drop (suc x.0) es)) o)) c.in-Some.is in
    let p = err_from_is_err_and c.from_residual-in_err-branch-in-Some.result c.from_residual-in_err-branch-in-Some.ensures.1 in
    rw (p.1, p.2) (event_fails test next c.args.from (drop c.args.from es) c.args.room.now number inner (drop (suc number) es) found (body c.in_ok-then-in-Some.then, c.process.new.room) c.in_ok-then-in-Some.ensures c.in_err-branch-in-Some.field-0.0 c.in_err-branch-in-Some.ensures)

pub next_branch-returns-in_ok-branch-in-Some-clause-branch : goal.next_branch-returns-in_ok-branch-in-Some-clause-branch
next_branch-returns-in_ok-branch-in-Some-clause-branch g t c =
    let s = within (g.G.GlobalScope.scope c.args.scope.now.global.now) (map input c.args.scope.now.inputs.items) in
    let es = events (g.G.GlobalScope.scope c.args.scope.now.global.now).channels in
    let q = c.args.prefix.now in
    let test = led_fits q.channel.now (listed q.leading.items) (map field_of (shapes q.fields.now)) (map (λ v. listed v.items) q.sets.now) s in
    let next = denoted (phrase_of (shape q.then.now)) in
    let number = c.in-Some.number in
    let inner = within (g.G.GlobalScope.scope c.args.scope.now.global.now) (map input c.in-Some.inputs.items) in
    let found = c.in_ok-found.ensures.first ∙ ap (λ o. some_fit (option_map (λ x. (x.0, within (g.G.GlobalScope.scope c.args.scope.now.global.now) (map input x.1.items), drop (suc x.0) es)) o)) c.in-Some.is in
    event_made test next c.args.from (drop c.args.from es) c.args.room.now number inner (drop (suc number) es) found (body c.in_ok-then-in-Some.then, c.process.new.room) c.in_ok-then-in-Some.ensures (body c.in_ok-branch-in-Some.branch, c.behind_event.new.room) c.in_ok-branch-in-Some.ensures

pub branches-loop-drafts-init : goal.branches-loop-drafts-init
branches-loop-drafts-init g t c =
    let s = within (g.G.GlobalScope.scope c.args.scope.now.global.now) (map input c.args.scope.now.inputs.items) in
    let es = events (g.G.GlobalScope.scope c.args.scope.now.global.now).channels in
    let q = c.args.prefix.now in
    let test = led_fits q.channel.now (listed q.leading.items) (map field_of (shapes q.fields.now)) (map (λ v. listed v.items) q.sets.now) s in
    let next = denoted (phrase_of (shape q.then.now)) in
    none_before (map body c.new-drafts.result.items) (all_fit c.args.room.now (branches test next 0 es)) (ap (map body) c.new-drafts.ensures.items)

pub branches-next_branch-requires : goal.branches-next_branch-requires
branches-next_branch-requires g t c κs within =
    let m : 6 * weight (phrase_of (shape c.args.prefix.now.then.now)) + 3 < 6 * weight (phrase_of (shape c.args.prefix.now.then.now)) + 4 = omega arith in
    search (rules, m)

pub branches-returns-in_err-found : goal.branches-returns-in_err-found
branches-returns-in_err-found g t c =
    let s = within (g.G.GlobalScope.scope c.args.scope.now.global.now) (map input c.args.scope.now.inputs.items) in
    let es = events (g.G.GlobalScope.scope c.args.scope.now.global.now).channels in
    let q = c.args.prefix.now in
    let test = led_fits q.channel.now (listed q.leading.items) (map field_of (shapes q.fields.now)) (map (λ v. listed v.items) q.sets.now) s in
    let next = denoted (phrase_of (shape q.then.now)) in
    let p = err_from_is_err_and c.from_residual.result c.from_residual.ensures.1 in
    rw (p.1, p.2) (turn_fails test next c.loop-drafts.from (drop c.loop-drafts.from es) c.loop-drafts.room (map body c.loop-drafts.drafts.items) (all_fit c.args.room.now (branches test next 0 es)) c.loop-drafts.invariant c.in_err-found.field-0.0 c.in_err-found.ensures.branch)

pub branches-returns-in-None : goal.branches-returns-in-None
branches-returns-in-None g t c =
    let s = within (g.G.GlobalScope.scope c.args.scope.now.global.now) (map input c.args.scope.now.inputs.items) in
    let es = events (g.G.GlobalScope.scope c.args.scope.now.global.now).channels in
    let q = c.args.prefix.now in
    let test = led_fits q.channel.now (listed q.leading.items) (map field_of (shapes q.fields.now)) (map (λ v. listed v.items) q.sets.now) s in
    let next = denoted (phrase_of (shape q.then.now)) in
    last_turn test next c.loop-drafts.from (drop c.loop-drafts.from es) c.loop-drafts.room (map body c.loop-drafts.drafts.items) (all_fit c.args.room.now (branches test next 0 es)) c.loop-drafts.invariant c.next_branch.new.room (c.in_ok-found.ensures.branch ∙ ap (λ o. some_branch (option_map (λ p. (p.0, body p.1, drop (suc p.0) es)) o) c.next_branch.new.room) c.in-None.is)

pub branches-loop-drafts-smaller : goal.branches-loop-drafts-smaller
branches-loop-drafts-smaller g t c =
    let facts = subst (λ o. IfSome o (λ x. (c.loop-drafts.from ≤ x.0) × (x.0 < 256))) c.in-Some.is c.in_ok-found.ensures.number in
    omega (arith, facts.0, facts.1)

pub branches-loop-drafts-preserved : goal.branches-loop-drafts-preserved
branches-loop-drafts-preserved g t c =
    let s = within (g.G.GlobalScope.scope c.args.scope.now.global.now) (map input c.args.scope.now.inputs.items) in
    let es = events (g.G.GlobalScope.scope c.args.scope.now.global.now).channels in
    let q = c.args.prefix.now in
    let test = led_fits q.channel.now (listed q.leading.items) (map field_of (shapes q.fields.now)) (map (λ v. listed v.items) q.sets.now) s in
    let next = denoted (phrase_of (shape q.then.now)) in
    next_turn test next c.loop-drafts.from (drop c.loop-drafts.from es) c.loop-drafts.room (map body c.loop-drafts.drafts.items) (all_fit c.args.room.now (branches test next 0 es)) c.loop-drafts.invariant c.in-Some.number (body c.in-Some.branch) es c.next_branch.new.room (map body c.push.new.self.items) (c.in_ok-found.ensures.branch ∙ ap (λ o. some_branch (option_map (λ p. (p.0, body p.1, drop (suc p.0) es)) o) c.next_branch.new.room) c.in-Some.is) (put_behind body c.loop-drafts.drafts.items c.push.new.self.items c.in-Some.branch c.in_ok-push-in-Some.ensures.items)

pub put_process-process-requires : goal.put_process-process-requires
put_process-process-requires g t c κs within =
    let m : 6 * weight (phrase_of (shape c.args.tree.now)) + 1 < 6 * weight (phrase_of (shape c.args.tree.now)) + 2 = omega arith in
    search (rules, m)

pub put_process-returns-in_err-draft : goal.put_process-returns-in_err-draft
put_process-returns-in_err-draft g t c =
    let s = within (g.G.GlobalScope.scope c.args.scope.now.global.now) (map input c.args.scope.now.inputs.items) in
    let p = err_from_is_err_and c.from_residual.result c.from_residual.ensures.1 in
    rw (p.1, p.2) (no_process c.in_err-draft.field-0.0 (map body c.args.drafts.now.items) (fits c.args.room.now (denoted (phrase_of (shape c.args.tree.now)) s)) c.in_err-draft.ensures)

pub put_process-returns : goal.put_process-returns
put_process-returns g t c =
    let s = within (g.G.GlobalScope.scope c.args.scope.now.global.now) (map input c.args.scope.now.inputs.items) in
    one_process (map body c.args.drafts.now.items) (map body c.push.new.self.items) (fits c.args.room.now (denoted (phrase_of (shape c.args.tree.now)) s)) (body c.in_ok-draft.draft, c.process.new.room) c.in_ok-draft.ensures (put_behind body c.args.drafts.now.items c.push.new.self.items c.in_ok-draft.draft c.in_ok-push.ensures.items)

pub over-loop-at-init : goal.over-loop-at-init
over-loop-at-init g t c =
    let s = g.G.GlobalScope.scope c.args.scope.now.global.now in
    let next = denoted (phrase_of (shape c.args.then.now)) in
    let whole = all_fit c.args.room.now (on_visits next (from_scope s c.args.first)) in
    none_before (map body c.new-drafts.result.items) whole (ap (map body) c.new-drafts.ensures.items)

pub over-put_process-requires : goal.over-put_process-requires
over-put_process-requires g t c κs within =
    let m : 6 * weight (phrase_of (shape c.args.then.now)) + 2 < 6 * weight (phrase_of (shape c.args.then.now)) + 3 = omega arith in
    search (rules, m)

pub over-returns-in_err-put_process : goal.over-returns-in_err-put_process
over-returns-in_err-put_process g t c =
    let s = g.G.GlobalScope.scope c.args.scope.now.global.now in
    let next = denoted (phrase_of (shape c.args.then.now)) in
    let whole = all_fit c.args.room.now (on_visits next (from_scope s c.args.first)) in
    let is = map input c.in-Some.field-0.inputs.items in
    let vs = visits_after s is (innermost_first c.in-Some.field-0.outer.items) in
    let p = err_from_is_err_and c.from_residual.result c.from_residual.ensures.1 in
    rw (p.1, p.2) (stands_fails next (map body c.loop-at.drafts.items) (from_scope s c.loop-at.at) c.loop-at.room whole c.loop-at.invariant (within s is) vs (ap (from_scope s) c.in-Some.is) c.in_err-put_process.field-0.0 c.in_err-put_process.ensures)

pub over-returns-in_err-next : goal.over-returns-in_err-next
over-returns-in_err-next g t c =
    let s = g.G.GlobalScope.scope c.args.scope.now.global.now in
    let next = denoted (phrase_of (shape c.args.then.now)) in
    let whole = all_fit c.args.room.now (on_visits next (from_scope s c.args.first)) in
    let is = map input c.in-Some.field-0.inputs.items in
    let vs = visits_after s is (innermost_first c.in-Some.field-0.outer.items) in
    let p = err_from_is_err_and c.from_residual-in_err-next.result c.from_residual-in_err-next.ensures.1 in
    rw (p.1, p.2) (no_next next (map body c.loop-at.drafts.items) (from_scope s c.loop-at.at) c.loop-at.room whole c.loop-at.invariant (within s is) vs (ap (from_scope s) c.in-Some.is) (map body c.put_process.new.drafts.items, c.put_process.new.room) c.in_ok-put_process.ensures c.in_err-next.field-0.0 c.in_err-next.ensures)

pub over-loop-at-smaller : goal.over-loop-at-smaller
over-loop-at-smaller g t c =
    let s = g.G.GlobalScope.scope c.args.scope.now.global.now in
    let next = denoted (phrase_of (shape c.args.then.now)) in
    let whole = all_fit c.args.room.now (on_visits next (from_scope s c.args.first)) in
    let is = map input c.in-Some.field-0.inputs.items in
    let vs = visits_after s is (innermost_first c.in-Some.field-0.outer.items) in
    let less = not_more vs (from_scope s c.in_ok-next.next) c.in_ok-next.ensures in
    let here : length (from_scope s c.loop-at.at) ≡ suc (length vs) = ap (λ o. length (from_scope s o)) c.in-Some.is in
    omega (arith, less, here)

pub over-loop-at-preserved : goal.over-loop-at-preserved
over-loop-at-preserved g t c =
    let s = g.G.GlobalScope.scope c.args.scope.now.global.now in
    let next = denoted (phrase_of (shape c.args.then.now)) in
    let whole = all_fit c.args.room.now (on_visits next (from_scope s c.args.first)) in
    let is = map input c.in-Some.field-0.inputs.items in
    let vs = visits_after s is (innermost_first c.in-Some.field-0.outer.items) in
    next_found next (map body c.loop-at.drafts.items) (from_scope s c.loop-at.at) c.loop-at.room whole c.loop-at.invariant (within s is) vs (ap (from_scope s) c.in-Some.is) (map body c.put_process.new.drafts.items, c.put_process.new.room) c.in_ok-put_process.ensures (from_scope s c.in_ok-next.next) c.in_ok-next.ensures

pub over-returns : goal.over-returns
over-returns g t c =
    let s = g.G.GlobalScope.scope c.args.scope.now.global.now in
    let next = denoted (phrase_of (shape c.args.then.now)) in
    let whole = all_fit c.args.room.now (on_visits next (from_scope s c.args.first)) in
    walk_end next (map body c.loop-at.drafts.items) (from_scope s c.loop-at.at) c.loop-at.room whole c.loop-at.invariant (ap (from_scope s) (none_if c.loop-at.at c.in_default.not-Some))

pub replicated_phrase-returns-in_err-first : goal.replicated_phrase-returns-in_err-first
replicated_phrase-returns-in_err-first g t c =
    let s = within (g.G.GlobalScope.scope c.args.scope.now.global.now) (map input c.args.scope.now.inputs.items) in
    let p = err_from_is_err_and c.from_residual.result c.from_residual.ensures.1 in
    rw (p.1, p.2) (no_first s c.args.room.now c.args.join (shapes c.args.form.0.now) (phrase_of (shape c.args.form.1.now)) c.in_err-first.field-0.0 c.in_err-first.ensures)

pub replicated_phrase-over-requires : goal.replicated_phrase-over-requires
replicated_phrase-over-requires g t c κs within =
    let m : 6 * weight (phrase_of (shape c.args.form.1.now)) + 3 < 6 * weight (phrase_of (shape c.args.form.1.now)) + 5 = omega arith in
    search (rules, m)

pub replicated_phrase-returns-in_err-drafts : goal.replicated_phrase-returns-in_err-drafts
replicated_phrase-returns-in_err-drafts g t c =
    let s = within (g.G.GlobalScope.scope c.args.scope.now.global.now) (map input c.args.scope.now.inputs.items) in
    let p = err_from_is_err_and c.from_residual-in_err-drafts.result c.from_residual-in_err-drafts.ensures.1 in
    rw (p.1, p.2) (replicated_fails s c.args.room.now c.args.join (shapes c.args.form.0.now) (phrase_of (shape c.args.form.1.now)) (from_scope (g.G.GlobalScope.scope c.args.scope.now.global.now) c.in_ok-first.first) c.in_ok-first.ensures c.in_err-drafts.field-0.0 c.in_err-drafts.ensures)

pub replicated_phrase-returns : goal.replicated_phrase-returns
replicated_phrase-returns g t c =
    let s = within (g.G.GlobalScope.scope c.args.scope.now.global.now) (map input c.args.scope.now.inputs.items) in
    subst (λ o. Gives (λ b. (body b, c.all_joined.new.room)) c.all_joined.result o)
    (sym (replicated_so s c.args.room.now c.args.join (shapes c.args.form.0.now) (phrase_of (shape c.args.form.1.now)) (from_scope (g.G.GlobalScope.scope c.args.scope.now.global.now) c.in_ok-first.first) c.in_ok-first.ensures (map body c.in_ok-drafts.drafts.items, c.over.new.room) c.in_ok-drafts.ensures)) c.all_joined.ensures

pub hiding_phrase-process-requires : goal.hiding_phrase-process-requires
hiding_phrase-process-requires g t c κs within =
    let m : 6 * weight (phrase_of (shape c.args.tree.now)) + 1 < 6 * weight (phrase_of (shape c.args.tree.now)) + 5 = omega arith in
    search (rules, m)

pub renaming_phrase-process-requires : goal.renaming_phrase-process-requires
renaming_phrase-process-requires g t c κs within =
    let m : 6 * weight (phrase_of (shape c.args.tree.now)) + 1 < 6 * weight (phrase_of (shape c.args.tree.now)) + 5 = omega arith in
    search (rules, m)

pub hiding_phrase-returns-in_err-draft : goal.hiding_phrase-returns-in_err-draft
hiding_phrase-returns-in_err-draft g t c =
    let s = within (g.G.GlobalScope.scope c.args.scope.now.global.now) (map input c.args.scope.now.inputs.items) in
    let p = err_from_is_err_and c.from_residual.result c.from_residual.ensures.1 in
    rw (p.1, p.2) (hiding_first s c.args.room.now (phrase_of (shape c.args.tree.now)) (shape c.args.set.now) c.in_err-draft.field-0.0 c.in_err-draft.ensures)

pub hiding_phrase-returns-in_err-set : goal.hiding_phrase-returns-in_err-set
hiding_phrase-returns-in_err-set g t c =
    let s = within (g.G.GlobalScope.scope c.args.scope.now.global.now) (map input c.args.scope.now.inputs.items) in
    let p = err_from_is_err_and c.from_residual-in_err-set.result c.from_residual-in_err-set.ensures.1 in
    rw (p.1, p.2) (hiding_set s c.args.room.now (phrase_of (shape c.args.tree.now)) (shape c.args.set.now) (body c.in_ok-draft.draft, c.process.new.room) c.in_ok-draft.ensures c.in_err-set.field-0.0 c.in_err-set.ensures)

pub hiding_phrase-returns : goal.hiding_phrase-returns
hiding_phrase-returns g t c =
    let s = within (g.G.GlobalScope.scope c.args.scope.now.global.now) (map input c.args.scope.now.inputs.items) in
    subst (λ o. Gives (λ b. (body b, c.hidden.new.room)) c.hidden.result o)
    (sym (hiding_so s c.args.room.now (phrase_of (shape c.args.tree.now)) (shape c.args.set.now) (body c.in_ok-draft.draft, c.process.new.room) c.in_ok-draft.ensures c.in_ok-set.set c.in_ok-set.ensures)) c.hidden.ensures

pub renaming_phrase-returns-in_err-draft : goal.renaming_phrase-returns-in_err-draft
renaming_phrase-returns-in_err-draft g t c =
    let s = within (g.G.GlobalScope.scope c.args.scope.now.global.now) (map input c.args.scope.now.inputs.items) in
    let p = err_from_is_err_and c.from_residual.result c.from_residual.ensures.1 in
    rw (p.1, p.2) (renaming_first s c.args.room.now (phrase_of (shape c.args.tree.now)) (syntaxes (shapes c.args.pairs.now)) c.in_err-draft.field-0.0 c.in_err-draft.ensures)

pub renaming_phrase-returns : goal.renaming_phrase-returns
renaming_phrase-returns g t c =
    let s = within (g.G.GlobalScope.scope c.args.scope.now.global.now) (map input c.args.scope.now.inputs.items) in
    subst (λ o. Gives (λ b. (body b, c.renamed_by.new.room)) c.renamed_by.result o)
    (sym (renaming_on s c.args.room.now (phrase_of (shape c.args.tree.now)) (syntaxes (shapes c.args.pairs.now)) (body c.in_ok-draft.draft, c.process.new.room) c.in_ok-draft.ensures)) c.renamed_by.ensures

pub conditional_phrase-process-requires : goal.conditional_phrase-process-requires
conditional_phrase-process-requires g t c κs within =
    let m : 6 * weight (phrase_of (shape c.args.trees.0.now)) + 1 < 6 * (weight (phrase_of (shape c.args.trees.0.now)) + weight (or_stops c.args.trees.1)) + 5 = omega arith in
    search (rules, m)

pub conditional_phrase-process-requires-in-Some : goal.conditional_phrase-process-requires-in-Some
conditional_phrase-process-requires-in-Some g t c κs within =
    let e : weight (or_stops c.args.trees.1) ≡ weight (phrase_of (shape c.in-Some.other.now)) = ap (λ u. weight (or_stops u)) c.in-Some.is in
    let m : 6 * weight (phrase_of (shape c.in-Some.other.now)) + 1 < 6 * (weight (phrase_of (shape c.args.trees.0.now)) + weight (or_stops c.args.trees.1)) + 5 = omega (arith, e) in
    search (rules, m)

pub conditional_phrase-returns-in_err-holds : goal.conditional_phrase-returns-in_err-holds
conditional_phrase-returns-in_err-holds g t c =
    let s = within (g.G.GlobalScope.scope c.args.scope.now.global.now) (map input c.args.scope.now.inputs.items) in
    let p = err_from_is_err_and c.from_residual.result c.from_residual.ensures.1 in
    rw (p.1, p.2) (conditional_fails s c.args.room.now (shape c.args.condition.now) (phrase_of (shape c.args.trees.0.now)) (or_stops c.args.trees.1) c.in_err-holds.field-0.0 c.in_err-holds.ensures)

pub conditional_phrase-returns-then-holds : goal.conditional_phrase-returns-then-holds
conditional_phrase-returns-then-holds g t c =
    let s = within (g.G.GlobalScope.scope c.args.scope.now.global.now) (map input c.args.scope.now.inputs.items) in
    subst (λ o. Gives (λ b. (body b, c.process.new.room)) c.process.result o)
    (sym (conditional_so s c.args.room.now (shape c.args.condition.now) (phrase_of (shape c.args.trees.0.now)) (or_stops c.args.trees.1) true (c.in_ok-holds.ensures ∙ ap (λ b. Some b) c.if-holds.true))) c.process.ensures

pub conditional_phrase-returns-in-Some : goal.conditional_phrase-returns-in-Some
conditional_phrase-returns-in-Some g t c =
    let s = within (g.G.GlobalScope.scope c.args.scope.now.global.now) (map input c.args.scope.now.inputs.items) in
    subst (λ o. Gives (λ b. (body b, c.process-in-Some.new.room)) c.process-in-Some.result o)
    (sym (conditional_so s c.args.room.now (shape c.args.condition.now) (phrase_of (shape c.args.trees.0.now)) (or_stops c.args.trees.1) false (c.in_ok-holds.ensures ∙ ap (λ b. Some b) c.if-holds.false) ∙ ap (λ u. fits c.args.room.now (denoted (or_stops u) s)) c.in-Some.is)) c.process-in-Some.ensures

pub conditional_phrase-returns-in-None : goal.conditional_phrase-returns-in-None
unfolding denoted fit size
conditional_phrase-returns-in-None g t c =
    let s = within (g.G.GlobalScope.scope c.args.scope.now.global.now) (map input c.args.scope.now.inputs.items) in
    subst (λ o. Gives (λ b. (body b, c.stop.new.room)) c.stop.result o)
    (sym (conditional_so s c.args.room.now (shape c.args.condition.now) (phrase_of (shape c.args.trees.0.now)) (or_stops c.args.trees.1) false (c.in_ok-holds.ensures ∙ ap (λ b. Some b) c.if-holds.false) ∙ ap (λ u. fits c.args.room.now (denoted (or_stops u) s)) c.in-None.is)) c.stop.ensures
