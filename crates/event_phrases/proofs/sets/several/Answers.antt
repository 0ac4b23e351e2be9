use Rattle.std.proofs.Common.{arith, map}
use Rattle.std.proofs.lemmas.Result.{err_from_is_err_and}
use Rattle.syntax.specs.View.{shapes}
use Rattle.values.specs.Tables.{input}
use Rattle.event_phrases.specs.Events.{gives, masked, together}
use Rattle.event_phrases.specs.Forms.{event_of}
use Rattle.event_phrases.specs.Scopes.{within}
use Rattle.event_phrases.proofs.EventSetLaws.{several_start, several_more, several_fails, several_end}
use Rattle.event_phrases.proofs.sets.several.Goals as goal

pub loop-tree-init : goal.loop-tree-init
loop-tree-init g c =
    let s = g.G.GlobalScope.scope c.args.scope.now.global.now in
    several_start s.channels (gives s.channels (within s (map input c.args.scope.now.inputs.items)).known c.args.extent) c.args.trees.now c.empty-set.result c.empty-set.ensures

pub loop-tree-preserved : goal.loop-tree-preserved
loop-tree-preserved g c =
    let s = g.G.GlobalScope.scope c.args.scope.now.global.now in
    let given_by = gives s.channels (within s (map input c.args.scope.now.inputs.items)).known c.args.extent in
    several_more s.channels given_by c.args.trees.now c.loop-tree.tree-index c.tree-item.result c.loop-tree.set c.in_ok-more.more c.union-set.result (masked s.channels (together given_by (map event_of (shapes c.args.trees.now)))) c.loop-tree.invariant (omega arith) c.tree-item.is c.in_ok-more.ensures c.union-set.ensures

pub returns-in_err-more : goal.returns-in_err-more
returns-in_err-more g c =
    let s = g.G.GlobalScope.scope c.args.scope.now.global.now in
    let given_by = gives s.channels (within s (map input c.args.scope.now.inputs.items)).known c.args.extent in
    let p = err_from_is_err_and c.from_residual.result c.from_residual.ensures.1 in
    rw (p.1, p.2) (several_fails s.channels given_by c.args.trees.now c.in_err-more.field-0.0 c.loop-tree.tree-index c.tree-item.result c.loop-tree.set (masked s.channels (together given_by (map event_of (shapes c.args.trees.now)))) c.loop-tree.invariant (omega arith) c.tree-item.is c.in_err-more.ensures)

pub returns : goal.returns
returns g c =
    let s = g.G.GlobalScope.scope c.args.scope.now.global.now in
    let given_by = gives s.channels (within s (map input c.args.scope.now.inputs.items)).known c.args.extent in
    several_end s.channels given_by c.args.trees.now c.loop-tree.tree-index c.loop-tree.set (masked s.channels (together given_by (map event_of (shapes c.args.trees.now)))) c.loop-tree.invariant (omega arith)
