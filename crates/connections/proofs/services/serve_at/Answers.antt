use Rattle.std.proofs.Common.{◌+◌, ◌<◌, sym, ap, subst, refl, ◌∙◌}
use Rattle.connections.specs.Outcomes.{WasTold}
use Rattle.connections.specs.Visiting.{book_of, outcome_after, promises, with_one}
use Rattle.connections.proofs.SoFar.{came, none_after, promises_last, promises_long, so_far_called_off, so_far_present, worth}
use Rattle.connections.proofs.services.serve_at.Goals as goal

pub returns-in-Ok-clause-so_far : goal.returns-in-Ok-clause-so_far
returns-in-Ok-clause-so_far g c first now next places terms any failures few far taken =
    so_far_present c.args.gate.now (g.G.Gate.gives c.args.gate.now) (g.G.Gate.refuses c.args.gate.now) g.G.Gate.serves g.G.Reusable.answered g.G.Reusable.free g.G.Reusable.counted g.A.Accept.takes g.A.Accept.fails g.A.Listen.waits g.A.Reader.Source.left g.A.Reader.Close.is_closed g.A.Writer.Sink.contents (WasTold g.A.Writer.Sink.contents g.A.Writer.Sink.has_handed_on g.A.Writer.Sink.failures) terms first now next places (with_one (book_of g.G.Reusable.free g.G.Reusable.counted c.args.hall.now)) _ any failures c.args.reader c.args.writer c.in-Ok.running.thread.promise far taken
    (c.args.place, c.requires.given.0, c.requires.given.1, c.in-Ok.ensures.started) (subst (λ n. n < terms.threads) (sym (promises_long c.args.hall.now.running.items)) few)
    (ap promises c.push_reserved.ensures.items ∙ promises_last c.args.hall.now.running.items c.in-Ok.running) refl refl refl

pub returns-in-Err-clause-so_far : goal.returns-in-Err-clause-so_far
returns-in-Err-clause-so_far g c first now next places terms any failures few far taken =
    let gone = c.in-Err.gone in
    let comes = c.in-Err.ensures.called_off in
    so_far_called_off c.args.gate.now (g.G.Gate.gives c.args.gate.now) (g.G.Gate.refuses c.args.gate.now) g.G.Gate.serves g.G.Reusable.answered g.G.Reusable.free g.G.Reusable.counted g.A.Accept.takes g.A.Accept.fails g.A.Listen.waits g.A.Reader.Source.left g.A.Reader.Close.is_closed g.A.Writer.Sink.contents (WasTold g.A.Writer.Sink.contents g.A.Writer.Sink.has_handed_on g.A.Writer.Sink.failures) terms first now next places (with_one (book_of g.G.Reusable.free g.G.Reusable.counted c.args.hall.now)) _ any failures c.args.reader c.args.writer (outcome_after gone) far taken
    (came c.args.gate.now (g.G.Gate.gives c.args.gate.now) (g.G.Gate.refuses c.args.gate.now) g.G.Gate.serves g.G.Reusable.answered g.G.Reusable.free g.G.Reusable.counted g.A.Accept.takes g.A.Accept.fails g.A.Listen.waits g.A.Reader.Source.left g.A.Reader.Close.is_closed g.A.Writer.Sink.contents (WasTold g.A.Writer.Sink.contents g.A.Writer.Sink.has_handed_on g.A.Writer.Sink.failures) terms c.args.reader c.args.writer c.args.place gone c.requires.given.0 comes)
    (none_after gone) (subst (λ n. n < terms.threads) (sym (promises_long c.args.hall.now.running.items)) few)
    (ap promises c.leave.ensures.running) c.leave.ensures.added c.leave.ensures.free
    (c.leave.ensures.counted ∙ ap (λ n. g.G.Reusable.counted c.args.hall.now.places + n) (sym (worth c.args.gate.now (g.G.Gate.gives c.args.gate.now) (g.G.Gate.refuses c.args.gate.now) g.G.Gate.serves g.G.Reusable.answered g.G.Reusable.free g.G.Reusable.counted g.A.Accept.takes g.A.Accept.fails g.A.Listen.waits g.A.Reader.Source.left g.A.Reader.Close.is_closed g.A.Writer.Sink.contents (WasTold g.A.Writer.Sink.contents g.A.Writer.Sink.has_handed_on g.A.Writer.Sink.failures) terms c.args.reader c.args.writer c.args.place gone c.requires.given.1 comes)))
