use Rattle.std.specs.Prelude.{◌≡◌, length}
use Rattle.connections.specs.Visiting.{GoesOn, book_of}
use Rattle.connections.proofs.visits.join_all.Given as goal

abbrev pub decreases-loop-left : goal.decreases-loop-left
decreases-loop-left g l = l.left

abbrev pub invariant-loop-left : goal.invariant-loop-left
invariant-loop-left g l = record {
  goes_on : GoesOn g.V.Promise.kept_by g.G.Reusable.answered (book_of g.G.Reusable.free g.G.Reusable.counted l.initial.hall) (book_of g.G.Reusable.free g.G.Reusable.counted l.hall);
  any : l.hall.any ≡ l.initial.hall.any;
  long : l.left ≡ length l.hall.running.items;
}
