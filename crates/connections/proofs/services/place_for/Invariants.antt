use Rattle.std.specs.Prelude.{◌≡◌, vec_capacity}
use Rattle.connections.specs.Visiting.{GoesOn, book_of}
use Rattle.connections.proofs.services.place_for.Given as goal

abbrev pub invariant-loop-turn : goal.invariant-loop-turn
invariant-loop-turn g l = record {
  goes_on : GoesOn g.V.Promise.kept_by g.G.Reusable.answered (book_of g.G.Reusable.free g.G.Reusable.counted l.initial.hall) (book_of g.G.Reusable.free g.G.Reusable.counted l.hall);
  any : l.hall.any ≡ l.initial.hall.any;
  capacity : vec_capacity l.hall.running ≡ vec_capacity l.initial.hall.running;
}
