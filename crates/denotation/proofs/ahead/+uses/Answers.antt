use Rattle.std.proofs.Common.{arith}
use Rattle.syntax.specs.View.{shape, shapes}
use Rattle.denotation.proofs.Unused.{used_here, used_later, used_end}
use Rattle.denotation.proofs.ahead.+uses.Goals as goal

pub some_use-returns-then-uses : goal.some_use-returns-then-uses
some_use-returns-then-uses g t c = used_here shape c.args.trees.now c.loop-tree.tree-index c.tree-item.result (omega arith) c.tree-item.is (shapes c.args.generators.now) c.uses.result _ c.loop-tree.invariant c.uses.ensures c.if-uses.true

pub some_use-loop-tree-preserved : goal.some_use-loop-tree-preserved
some_use-loop-tree-preserved g t c = used_later shape c.args.trees.now c.loop-tree.tree-index c.tree-item.result (omega arith) c.tree-item.is (shapes c.args.generators.now) c.uses.result _ c.loop-tree.invariant c.uses.ensures c.if-uses.false

pub some_use-returns : goal.some_use-returns
some_use-returns g t c = used_end shape c.args.trees.now c.loop-tree.tree-index (omega arith) (shapes c.args.generators.now) _ c.loop-tree.invariant
