use Rattle.std.proofs.Common.{◌≡◌, ◌<◌, ◌≤◌, ◌-◌, ℕ, length}
use Rattle.refinement.specs.Nodes.{AreSoundNodes, IsNodeDone, node_at}
use Rattle.refinement.proofs.reached.Nodes.seek.Given as goal

abbrev pub invariant-loop-at : goal.invariant-loop-at
invariant-loop-at g l = record {
  sound : AreSoundNodes l.self.space l.self.nodes.items l.self.places.entries l.self.most;
  most : l.self.most ≡ l.fn.self.most;
  some : 0 < length l.self.nodes.items;
  spec : l.self.space.spec ≡ l.fn.self.space.spec;
  here : l.at ≤ length l.self.nodes.items;
  done : (i : ℕ) → i < l.at → IsNodeDone l.property l.self.space l.self.nodes.items (node_at l.self.nodes.items i);
}

abbrev pub decreases-loop-at : goal.decreases-loop-at
decreases-loop-at g l = l.fn.self.most - l.at
