use Rattle.std.specs.Prelude.{◌≡◌, ◌-◌, length, vec_capacity}
use Rattle.connections.specs.Visiting.{GoesOn, book_of}
use Rattle.connections.proofs.visits.join_ended.Given as goal

abbrev pub decreases-loop-index : goal.decreases-loop-index
decreases-loop-index g l = length l.hall.running.items - l.index

abbrev pub invariant-loop-index : goal.invariant-loop-index
invariant-loop-index g l = record {
  goes_on : GoesOn g.V.Promise.kept_by g.G.Reusable.answered (book_of g.G.Reusable.free g.G.Reusable.counted l.initial.hall) (book_of g.G.Reusable.free g.G.Reusable.counted l.hall);
  any : l.hall.any ≡ l.initial.hall.any;
  capacity : vec_capacity l.hall.running ≡ vec_capacity l.initial.hall.running;
}
