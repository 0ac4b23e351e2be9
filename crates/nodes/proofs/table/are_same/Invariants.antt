use Rattle.std.proofs.Common.{◌≡◌, length}
use Rattle.term.specs.Same.{same_pairs}
use Rattle.nodes.proofs.table.are_same.Given as goal

abbrev pub invariant-loop-x : goal.invariant-loop-x
invariant-loop-x l = (same_pairs l.x-iterator.a.rest.now l.x-iterator.b.rest.now ≡ same_pairs l.a l.b) × (length l.x-iterator.a.rest.now ≡ length l.x-iterator.b.rest.now)
