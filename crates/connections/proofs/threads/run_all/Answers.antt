use Rattle.std.proofs.Common.{subst, sym}
use Rattle.connections.specs.Outcomes.{WasTold, IsLast, IsOutcome, WasClosed}
use Rattle.connections.specs.Starting.{IsTaken}
use Rattle.connections.proofs.Turns.{each_long, turn_joined}
use Rattle.connections.proofs.Joining.{joined}
use Rattle.connections.proofs.threads.run_all.Goals as goal

pub returns : goal.returns
returns g c = (
  c.take_all-accept_failed.ensures.0,
  turn_joined g.A.Accept.takes (IsTaken c.args.gate.now (g.G.Gate.gives c.args.gate.now) (g.G.Gate.refuses c.args.gate.now) (WasTold g.A.Writer.Sink.contents g.A.Writer.Sink.has_handed_on g.A.Writer.Sink.failures))
      (λ reader writer. IsOutcome (g.G.Gate.gives c.args.gate.now) (g.G.Gate.refuses c.args.gate.now) (g.G.Gate.serves c.args.gate.now) (WasClosed g.A.Reader.Source.left g.A.Reader.Close.is_closed) (WasTold g.A.Writer.Sink.contents g.A.Writer.Sink.has_handed_on g.A.Writer.Sink.failures writer) (g.A.Reader.Source.left reader) (g.A.Writer.Sink.contents writer))
      _
      (joined c.args.gate.now (g.G.Gate.gives c.args.gate.now) (g.G.Gate.refuses c.args.gate.now) g.G.Gate.serves g.A.Reader.Source.left g.A.Reader.Close.is_closed g.A.Writer.Sink.contents (WasTold g.A.Writer.Sink.contents g.A.Writer.Sink.has_handed_on g.A.Writer.Sink.failures))
      c.args.accept c.take_all-accept_failed.ensures.0 _ _ c.take_all-accept_failed.ensures.1 c.join_all.ensures,
  subst (λ n. IsLast g.A.Accept.fails c.take_all-accept_failed.ensures.0 n c.args.count c.take_all-accept_failed.result) (sym (each_long _ _ _ c.join_all.ensures)) c.take_all-accept_failed.ensures.2,
)
