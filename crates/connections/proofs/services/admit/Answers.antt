use Rattle.std.proofs.Common.{true, refl, ◌∙◌}
use Rattle.std.specs.Prelude.{None}
use Rattle.connections.specs.Outcomes.{WasTold}
use Rattle.connections.specs.Visiting.{book_of, none, with_one}
use Rattle.connections.proofs.SoFar.{so_far_flag, so_far_on, so_far_refused}
use Rattle.connections.proofs.Telling.{told_of}
use Rattle.connections.proofs.services.admit.Goals as goal

pub returns-in-Ok-clause-so_far : goal.returns-in-Ok-clause-so_far
returns-in-Ok-clause-so_far g c first now next places failures far taken =
    let old = book_of g.G.Reusable.free g.G.Reusable.counted c.args.hall.now in
    let far' = so_far_on c.args.gate.now (g.G.Gate.gives c.args.gate.now) (g.G.Gate.refuses c.args.gate.now) g.G.Gate.serves g.G.Reusable.answered g.G.Reusable.free g.G.Reusable.counted g.A.Accept.takes g.A.Accept.fails g.A.Listen.waits g.A.Reader.Source.left g.A.Reader.Close.is_closed g.A.Writer.Sink.contents (WasTold g.A.Writer.Sink.contents g.A.Writer.Sink.has_handed_on g.A.Writer.Sink.failures) c.args.terms first now places old (with_one (book_of g.G.Reusable.free g.G.Reusable.counted c.place_for.new.hall)) c.args.hall.now.any failures None far (c.in-Ok.ensures.goes_on old none) in
    so_far_flag c.args.gate.now (g.G.Gate.gives c.args.gate.now) (g.G.Gate.refuses c.args.gate.now) g.G.Gate.serves g.G.Reusable.answered g.G.Reusable.free g.G.Reusable.counted g.A.Accept.takes g.A.Accept.fails g.A.Listen.waits g.A.Reader.Source.left g.A.Reader.Close.is_closed g.A.Writer.Sink.contents (WasTold g.A.Writer.Sink.contents g.A.Writer.Sink.has_handed_on g.A.Writer.Sink.failures) c.args.terms first next places (book_of g.G.Reusable.free g.G.Reusable.counted c.serve_at.new.hall) true c.serve_at.new.hall.any 0 None
    (c.serve_at.ensures.so_far first now next places c.args.terms c.args.hall.now.any failures c.in-Ok.ensures.given.2 far' taken) (c.serve_at.ensures.any ∙ c.in-Ok.ensures.any)

pub returns-in-Err-clause-so_far : goal.returns-in-Err-clause-so_far
returns-in-Err-clause-so_far g c first now next places failures far taken =
    let old = book_of g.G.Reusable.free g.G.Reusable.counted c.args.hall.now in
    let mid = book_of g.G.Reusable.free g.G.Reusable.counted c.place_for.new.hall in
    let far' = so_far_on c.args.gate.now (g.G.Gate.gives c.args.gate.now) (g.G.Gate.refuses c.args.gate.now) g.G.Gate.serves g.G.Reusable.answered g.G.Reusable.free g.G.Reusable.counted g.A.Accept.takes g.A.Accept.fails g.A.Listen.waits g.A.Reader.Source.left g.A.Reader.Close.is_closed g.A.Writer.Sink.contents (WasTold g.A.Writer.Sink.contents g.A.Writer.Sink.has_handed_on g.A.Writer.Sink.failures) c.args.terms first now places old mid c.args.hall.now.any failures None far (c.in-Err.ensures.goes_on old none) in
    so_far_flag c.args.gate.now (g.G.Gate.gives c.args.gate.now) (g.G.Gate.refuses c.args.gate.now) g.G.Gate.serves g.G.Reusable.answered g.G.Reusable.free g.G.Reusable.counted g.A.Accept.takes g.A.Accept.fails g.A.Listen.waits g.A.Reader.Source.left g.A.Reader.Close.is_closed g.A.Writer.Sink.contents (WasTold g.A.Writer.Sink.contents g.A.Writer.Sink.has_handed_on g.A.Writer.Sink.failures) c.args.terms first next places _ true c.place_for.new.hall.any 0 None
    (so_far_refused c.args.gate.now (g.G.Gate.gives c.args.gate.now) (g.G.Gate.refuses c.args.gate.now) g.G.Gate.serves g.G.Reusable.answered g.G.Reusable.free g.G.Reusable.counted g.A.Accept.takes g.A.Accept.fails g.A.Listen.waits g.A.Reader.Source.left g.A.Reader.Close.is_closed g.A.Writer.Sink.contents (WasTold g.A.Writer.Sink.contents g.A.Writer.Sink.has_handed_on g.A.Writer.Sink.failures) c.args.terms first now next places mid _ c.args.hall.now.any failures c.args.reader c.args.writer c.in-Err.fault far' taken
    c.in-Err.ensures.refused
    (told_of g.A.Writer.Sink.contents g.A.Writer.Sink.has_handed_on g.A.Writer.Sink.failures c.args.writer c.refuse.new.writer c.in-Err.fault c.refuse.result
    c.refuse.ensures.ok c.refuse.ensures.handed_on c.refuse.ensures.failed)
    refl c.add.ensures refl refl)
    c.in-Err.ensures.any
