use Rattle.std.proofs.Common.{◌∷◌, [], ◌++◌, sym, subst, arith}
use Rattle.connections.specs.Outcomes.{WasTold, InTurn}
use Rattle.connections.specs.Starting.{IsTaken}
use Rattle.connections.proofs.Turns.{turn_more}
use Rattle.connections.proofs.threads.take_all.Goals as goal

pub loop-index-preserved : goal.loop-index-preserved
loop-index-preserved g c =
    let at = c.loop-index in
    let was = at.invariant.0 in
    let room = at.invariant.1 in
    let len = c.push_reserved.ensures.len in
    let capacity = c.push_reserved.ensures.capacity in
    let one : InTurn g.A.Accept.takes (IsTaken c.args.gate.now (g.G.Gate.gives c.args.gate.now) (g.G.Gate.refuses c.args.gate.now) (WasTold g.A.Writer.Sink.contents g.A.Writer.Sink.has_handed_on g.A.Writer.Sink.failures)) c.args.accept.now (at.threads.items ++ c.in-Ok.taken ∷ []) c.take.new.accept =
    turn_more _ _ c.args.accept.now at.accept c.take.new.accept at.threads.items c.in-Ok.taken at.invariant.2 c.in-Ok.ensures.taken in (
      omega (arith, was, len),
      omega (arith, room, capacity),
      subst (λ ts. InTurn g.A.Accept.takes (IsTaken c.args.gate.now (g.G.Gate.gives c.args.gate.now) (g.G.Gate.refuses c.args.gate.now) (WasTold g.A.Writer.Sink.contents g.A.Writer.Sink.has_handed_on g.A.Writer.Sink.failures)) c.args.accept.now ts c.take.new.accept) (sym c.push_reserved.ensures.items) one,
    )
