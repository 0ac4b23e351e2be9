use Rattle.std.proofs.Common.{arith}
use Rattle.syntax.specs.View.{shape}
use Rattle.denotation.proofs.Unused.{named_here, named_later, named_end}
use Rattle.denotation.proofs.ahead.is_name_of.Goals as goal

pub returns-then-has_name : goal.returns-then-has_name
returns-then-has_name g c = named_here shape c.args.generators.now c.loop-tree.tree-index c.tree-item.result (omega arith) c.tree-item.is c.args.name.now c.has_name.result _ c.loop-tree.invariant c.has_name.ensures c.if-has_name.true

pub loop-tree-preserved : goal.loop-tree-preserved
loop-tree-preserved g c = named_later shape c.args.generators.now c.loop-tree.tree-index c.tree-item.result (omega arith) c.tree-item.is c.args.name.now c.has_name.result _ c.loop-tree.invariant c.has_name.ensures c.if-has_name.false

pub returns : goal.returns
returns g c = named_end shape c.args.generators.now c.loop-tree.tree-index (omega arith) c.args.name.now _ c.loop-tree.invariant
