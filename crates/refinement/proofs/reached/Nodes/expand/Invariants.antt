use Rattle.std.proofs.Common.{◌≡◌, ◌<◌, ℕ}
use Rattle.refinement.specs.Nodes.{AreSoundNodes, GrewNodes, IsLed, node_at}
use Rattle.refinement.proofs.reached.Nodes.expand.Given as goal

abbrev pub invariant-loop-number : goal.invariant-loop-number
invariant-loop-number g l = record {
  most : l.self.most ≡ l.fn.self.most;
  sound : AreSoundNodes l.self.space l.self.nodes.items l.self.places.entries l.self.most;
  grown : GrewNodes l.fn.self.space l.fn.self.nodes.items l.self.space l.self.nodes.items;
  led : (a : ℕ) → a < l.number → IsLed l.self.space l.self.nodes.items (node_at l.fn.self.nodes.items l.at) a;
}
