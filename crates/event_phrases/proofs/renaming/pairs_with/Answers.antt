use Rattle.std.proofs.Common.{map, subst, sym}
use Rattle.std.proofs.lemmas.Result.{err_from_is_err_and}
use Rattle.syntax.specs.View.{shape}
use Rattle.values.specs.Tables.{input}
use Rattle.values.specs.View.{Gives}
use Rattle.event_phrases.specs.Events.{pair_of}
use Rattle.event_phrases.specs.Forms.{event_of}
use Rattle.event_phrases.specs.Scopes.{within}
use Rattle.event_phrases.specs.Uses.{behind_pairs}
use Rattle.event_phrases.specs.View.{beginning}
use Rattle.event_phrases.proofs.Renamings.{no_pair, left_fails, right_fails, pair_made}
use Rattle.syntax.proofs.Failing.{fails_none}
use Rattle.event_phrases.proofs.renaming.pairs_with.Goals as goal

pub returns-in-None : goal.returns-in-None
returns-in-None g c =
    let s = g.G.GlobalScope.scope c.args.scope.now.global.now in
    let known = (within s (map input c.args.scope.now.inputs.items)).known in
    fails_none c.fault.result (behind_pairs c.args.before.items (pair_of s.channels known (shape c.args.tree.now))) (no_pair s.channels known (shape c.args.tree.now) c.args.before.items c.in-None.ensures)

pub returns-in_err-left-in-Some : goal.returns-in_err-left-in-Some
returns-in_err-left-in-Some g c =
    let s = g.G.GlobalScope.scope c.args.scope.now.global.now in
    let known = (within s (map input c.args.scope.now.inputs.items)).known in
    let p = err_from_is_err_and c.from_residual.result c.from_residual.ensures.1 in
    rw (p.1, p.2) (left_fails s.channels known (shape c.args.tree.now) c.args.before.items (event_of (shape c.in-Some.left.now)) (event_of (shape c.in-Some.right.now)) c.in-Some.ensures c.in_err-left-in-Some.field-0.0 c.in_err-left-in-Some.ensures)

pub returns-in_err-right-in-Some : goal.returns-in_err-right-in-Some
returns-in_err-right-in-Some g c =
    let s = g.G.GlobalScope.scope c.args.scope.now.global.now in
    let known = (within s (map input c.args.scope.now.inputs.items)).known in
    let p = err_from_is_err_and c.from_residual-in_err-right-in-Some.result c.from_residual-in_err-right-in-Some.ensures.1 in
    rw (p.1, p.2) (right_fails s.channels known (shape c.args.tree.now) c.args.before.items (event_of (shape c.in-Some.left.now)) (event_of (shape c.in-Some.right.now)) c.in-Some.ensures (beginning c.in_ok-left-in-Some.left) c.in_ok-left-in-Some.ensures c.in_err-right-in-Some.field-0.0 c.in_err-right-in-Some.ensures)

pub returns-in_ok-right-in-Some : goal.returns-in_ok-right-in-Some
returns-in_ok-right-in-Some g c =
    let s = g.G.GlobalScope.scope c.args.scope.now.global.now in
    let known = (within s (map input c.args.scope.now.inputs.items)).known in
    subst (λ o. Gives (λ v. v.items) c.pairs_from.result o)
    (sym (pair_made s.channels known (shape c.args.tree.now) c.args.before.items (event_of (shape c.in-Some.left.now)) (event_of (shape c.in-Some.right.now)) c.in-Some.ensures (beginning c.in_ok-left-in-Some.left) c.in_ok-left-in-Some.ensures (beginning c.in_ok-right-in-Some.right) c.in_ok-right-in-Some.ensures))
    (c.pairs_from.ensures s.channels c.events.ensures.rows)

pub pairs_from-requires : goal.pairs_from-requires
pairs_from-requires g c = c.events.ensures.few
