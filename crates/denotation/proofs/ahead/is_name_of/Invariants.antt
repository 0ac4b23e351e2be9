use Rattle.std.proofs.Common.{◌≡◌, drop}
use Rattle.syntax.specs.View.{shapes}
use Rattle.denotation.specs.Ahead.{is_name_of}
use Rattle.denotation.proofs.ahead.is_name_of.Given as goal

abbrev pub invariant-loop-tree : goal.invariant-loop-tree
invariant-loop-tree g l = is_name_of (shapes (drop l.tree-index l.generators)) l.name ≡ is_name_of (shapes l.generators) l.name
