use Rattle.std.specs.Prelude.{◌≡◌, None, vec_capacity}
use Rattle.connections.specs.Outcomes.{WasTold}
use Rattle.connections.specs.Visiting.{IsSoFar, book_of}
use Rattle.connections.proofs.services.take_all.Given as goal

abbrev pub invariant-loop-turn : goal.invariant-loop-turn
invariant-loop-turn g l = record {
  so_far : (first : g.row.A.Denot) (places : g.row.G-Places.Denot) → IsSoFar l.gate (g.G.Gate.gives l.gate) (g.G.Gate.refuses l.gate) g.G.Gate.serves g.G.Reusable.answered g.G.Reusable.free g.G.Reusable.counted
      g.A.Accept.takes g.A.Accept.fails g.A.Listen.waits g.A.Reader.Source.left g.A.Reader.Close.is_closed g.A.Writer.Sink.contents (WasTold g.A.Writer.Sink.contents g.A.Writer.Sink.has_handed_on g.A.Writer.Sink.failures) l.terms first l.initial.accept places (book_of g.G.Reusable.free g.G.Reusable.counted l.initial.hall) l.initial.hall.any 0 None
      → IsSoFar l.gate (g.G.Gate.gives l.gate) (g.G.Gate.refuses l.gate) g.G.Gate.serves g.G.Reusable.answered g.G.Reusable.free g.G.Reusable.counted
      g.A.Accept.takes g.A.Accept.fails g.A.Listen.waits g.A.Reader.Source.left g.A.Reader.Close.is_closed g.A.Writer.Sink.contents (WasTold g.A.Writer.Sink.contents g.A.Writer.Sink.has_handed_on g.A.Writer.Sink.failures) l.terms first l.accept places (book_of g.G.Reusable.free g.G.Reusable.counted l.hall) l.hall.any l.failures None;
  capacity : vec_capacity l.hall.running ≡ vec_capacity l.initial.hall.running;
}
