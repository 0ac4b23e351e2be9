use Rattle.std.proofs.Common.{◌≡◌, ◌<◌, ℕ, false}
use Rattle.term.specs.Proc.{bodies_of}
use Rattle.unfolding.specs.Unfolded.{exposes_only}
use Rattle.keeping.specs.Guarding.{says}
use Rattle.keeping.proofs.guarding.Guarding.are_settled.Given as goal

abbrev pub invariant-loop-name : goal.invariant-loop-name
invariant-loop-name g l = (k : ℕ) → k < l.name → says l.self.guards k ≡ false → exposes_only (says l.self.guards) (bodies_of l.self.all.bodies k) ≡ false
