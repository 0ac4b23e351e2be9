use Rattle.std.specs.Prelude.{◌≡◌, ◌≤◌, length, vec_capacity}
use Rattle.connections.specs.Outcomes.{WasTold, InTurn}
use Rattle.connections.specs.Starting.{IsTaken}
use Rattle.connections.proofs.threads.take_all.Given as goal

abbrev pub invariant-loop-index : goal.invariant-loop-index
invariant-loop-index g l = (length l.threads.items ≡ l._index)
    × (l.count ≤ vec_capacity l.threads)
    × InTurn g.A.Accept.takes (IsTaken l.gate (g.G.Gate.gives l.gate) (g.G.Gate.refuses l.gate) (WasTold g.A.Writer.Sink.contents g.A.Writer.Sink.has_handed_on g.A.Writer.Sink.failures)) l.initial.accept l.threads.items l.accept
