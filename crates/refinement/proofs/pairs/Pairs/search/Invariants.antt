use Rattle.std.proofs.Common.{◌≡◌, ◌<◌, ◌≤◌, ◌-◌, ℕ, length}
use Rattle.refinement.specs.Pairs.{AreSound, IsDone, step_at}
use Rattle.refinement.proofs.pairs.Pairs.search.Given as goal

abbrev pub invariant-loop-at : goal.invariant-loop-at
invariant-loop-at g l = record {
  sound : AreSound l.self.spec l.self.made l.self.steps.items l.self.places.entries l.self.most;
  most : l.self.most ≡ l.fn.self.most;
  some : 0 < length l.self.steps.items;
  spec : l.self.spec.spec ≡ l.fn.self.spec.spec;
  made : l.self.made.spec ≡ l.fn.self.made.spec;
  here : l.at ≤ length l.self.steps.items;
  done : (i : ℕ) → i < l.at → IsDone l.refinement l.self.spec l.self.made l.self.steps.items (step_at l.self.steps.items i);
}

abbrev pub decreases-loop-at : goal.decreases-loop-at
decreases-loop-at g l = l.fn.self.most - l.at
