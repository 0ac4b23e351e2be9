use Rattle.std.proofs.Common.{arith, map}
use Rattle.std.proofs.lemmas.Result.{err_from_is_err_and}
use Rattle.syntax.specs.Parsing.{syntaxes}
use Rattle.syntax.specs.View.{shapes}
use Rattle.values.specs.Tables.{input}
use Rattle.event_phrases.specs.Events.{pairs_of}
use Rattle.event_phrases.specs.Scopes.{within}
use Rattle.event_phrases.proofs.Renamings.{others_start, others_more, others_fail, others_end}
use Rattle.event_phrases.proofs.renaming.pairs_of.Goals as goal

pub loop-tree-init : goal.loop-tree-init
loop-tree-init g c =
    let s = g.G.GlobalScope.scope c.args.scope.now.global.now in
    let known = (within s (map input c.args.scope.now.inputs.items)).known in
    others_start s.channels known c.args.trees.now c.new-pairs.result.items c.new-pairs.ensures.items

pub loop-tree-preserved : goal.loop-tree-preserved
loop-tree-preserved g c =
    let s = g.G.GlobalScope.scope c.args.scope.now.global.now in
    let known = (within s (map input c.args.scope.now.inputs.items)).known in
    others_more s.channels known c.args.trees.now c.loop-tree.tree-index c.tree-item.result c.loop-tree.pairs.items c.in_ok-pairs.pairs.items (pairs_of s.channels known (syntaxes (shapes c.args.trees.now))) c.loop-tree.invariant (omega arith) c.tree-item.is c.in_ok-pairs.ensures

pub returns-in_err-pairs : goal.returns-in_err-pairs
returns-in_err-pairs g c =
    let s = g.G.GlobalScope.scope c.args.scope.now.global.now in
    let known = (within s (map input c.args.scope.now.inputs.items)).known in
    let p = err_from_is_err_and c.from_residual.result c.from_residual.ensures.1 in
    rw (p.1, p.2) (others_fail s.channels known c.args.trees.now c.in_err-pairs.field-0.0 c.loop-tree.tree-index c.tree-item.result c.loop-tree.pairs.items (pairs_of s.channels known (syntaxes (shapes c.args.trees.now))) c.loop-tree.invariant (omega arith) c.tree-item.is c.in_err-pairs.ensures)

pub returns : goal.returns
returns g c =
    let s = g.G.GlobalScope.scope c.args.scope.now.global.now in
    let known = (within s (map input c.args.scope.now.inputs.items)).known in
    others_end s.channels known c.args.trees.now c.loop-tree.tree-index c.loop-tree.pairs.items (pairs_of s.channels known (syntaxes (shapes c.args.trees.now))) c.loop-tree.invariant (omega arith)
