use Rattle.std.proofs.Common.{rules, arith, Some, ◌≡◌, ◌<◌, List, map, length, get_or, [], ◌∷◌, ◌++◌, sym, ap, subst, ◌∙◌}
use Rattle.std.proofs.lemmas.List.{length-map, map-append}
use Rattle.std.proofs.lemmas.Result.{err_from_is_err_and}
use Rattle.term.specs.Proc.{proc}
use Rattle.denotation.specs.Bodies.{Key}
use Rattle.denotation.specs.Denotes.{body_under}
use Rattle.denotation.specs.Rooms.{within_limits}
use Rattle.denotation.specs.View.{key, body, root as root_view}
use Rattle.denotation.proofs.Progress.{Progress, start, one_more, finish, unique, stuck, body_less}
use Rattle.syntax.proofs.Failing.{fails_on}
use Rattle.denotation.proofs.gathering.bodies.Goals as goal

pub loop-alloc-init : goal.loop-alloc-init
loop-alloc-init g c = λ root h.
    let S = body_under (root_view c.args.root.now) (g.G.GlobalScope.scope c.args.global.now) in
    let k : map proc c.new-terms.result.items ≡ [] = ap (map proc) c.new-terms.ensures.items in
    rw k (subst (λ (ks : List Key). Progress S root [] ks 65536) (sym h) (start S root))

pub returns-in_err-draft-clause-only : goal.returns-in_err-draft-clause-only
returns-in_err-draft-clause-only g c = λ root h ps d.
    let S = body_under (root_view c.args.root.now) (g.G.GlobalScope.scope c.args.global.now) in
    let made = map proc c.loop-alloc.terms.items in
    let keys = map key c.loop-alloc.met.keys in
    let n : c.len-in-loop-alloc-2.result ≡ length made = search (rules, length-map) in
    let lt : length made < length keys = omega (arith, n, length-map c.loop-alloc.met.keys key) in
    let p = err_from_is_err_and c.from_residual.result c.from_residual.ensures.1 in
    rw (p.1, p.2) (fails_on c.in_err-draft.field-0.0 (within_limits c.loop-alloc.room (S (get_or keys c.len-in-loop-alloc-2.result root))) (Some ps)
    (λ e. absurd (stuck S root made keys c.loop-alloc.room (c.loop-alloc.invariant root h) lt ps d (ap (λ i. within_limits c.loop-alloc.room (S (get_or keys i root))) (sym n) ∙ e))) (c.in_err-draft.ensures root))

pub returns-in_err-term-clause-only : goal.returns-in_err-term-clause-only
returns-in_err-term-clause-only g c = λ root h ps d.
    let p = err_from_is_err_and c.from_residual-in_err-term.result c.from_residual-in_err-term.ensures.1 in
    rw (p.1, p.2) tt

pub returns-in_err-push-clause-only : goal.returns-in_err-push-clause-only
returns-in_err-push-clause-only g c = λ root h ps d.
    let p = err_from_is_err_and c.from_residual-in_err-push.result c.from_residual-in_err-push.ensures.1 in
    rw (p.1, p.2) tt

pub loop-alloc-smaller : goal.loop-alloc-smaller
loop-alloc-smaller g c =
    let none : Key = ([], []) in
    body_less c.loop-alloc.room (body_under (root_view c.args.root.now) (g.G.GlobalScope.scope c.args.global.now) (get_or (map key c.loop-alloc.met.keys) c.len-in-loop-alloc-2.result none)) (body c.in_ok-draft.draft, c.numbered_body.new.room) (c.in_ok-draft.ensures none)

pub loop-alloc-preserved : goal.loop-alloc-preserved
loop-alloc-preserved g c = λ root h.
    let S = body_under (root_view c.args.root.now) (g.G.GlobalScope.scope c.args.global.now) in
    let made = map proc c.loop-alloc.terms.items in
    let keys = map key c.loop-alloc.met.keys in
    let n : c.len-in-loop-alloc-2.result ≡ length made = search (rules, length-map) in
    let lt : length made < length keys = omega (arith, n, length-map c.loop-alloc.met.keys key) in
    let new : map proc c.push.new.self.items ≡ made ++ proc c.in_ok-term.term ∷ [] = ap (map proc) c.in_ok-push.ensures.items ∙ map-append proc c.loop-alloc.terms.items (c.in_ok-term.term ∷ []) in
    rw new (one_more S root made keys c.loop-alloc.room (c.loop-alloc.invariant root h) (body c.in_ok-draft.draft, c.numbered_body.new.room) (proc c.in_ok-term.term) (map key c.numbered.new.met.keys) lt
    (ap (λ i. within_limits c.loop-alloc.room (S (get_or keys i root))) (sym n) ∙ c.in_ok-draft.ensures root) c.in_ok-term.ensures.keys c.in_ok-term.ensures.term)

pub returns-clause-found : goal.returns-clause-found
returns-clause-found g c = λ root h. finish (body_under (root_view c.args.root.now) (g.G.GlobalScope.scope c.args.global.now)) root (map proc c.loop-alloc.terms.items) (map key c.loop-alloc.met.keys) c.loop-alloc.room (c.loop-alloc.invariant root h) (omega (arith, length-map c.loop-alloc.terms.items proc, length-map c.loop-alloc.met.keys key))

pub returns-clause-only : goal.returns-clause-only
returns-clause-only g c = λ root h ps d. ap (λ x. Some x) (unique (body_under (root_view c.args.root.now) (g.G.GlobalScope.scope c.args.global.now)) root (map proc c.loop-alloc.terms.items) (map key c.loop-alloc.met.keys) c.loop-alloc.room (c.loop-alloc.invariant root h) (omega (arith, length-map c.loop-alloc.terms.items proc, length-map c.loop-alloc.met.keys key)) ps d)
