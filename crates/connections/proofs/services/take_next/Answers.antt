use Rattle.std.proofs.Common.{refl}
use Rattle.std.specs.Prelude.{None}
use Rattle.connections.specs.Outcomes.{WasTold}
use Rattle.connections.specs.Visiting.{book_of, none}
use Rattle.connections.proofs.SoFar.{so_far_flag, so_far_on}
use Rattle.connections.proofs.services.take_next.Goals as goal

pub returns-in-Ok-Some-clause-taken : goal.returns-in-Ok-Some-clause-taken
returns-in-Ok-Some-clause-taken g c is first places failures far =
    c.admit.ensures.so_far first c.args.accept.now c.accept_soon.new.self places failures far (rw c.in-Ok-Some.field-0-is at c.in-Ok-Some.ensures.taken)

pub returns-in-Ok-None-clause-none : goal.returns-in-Ok-None-clause-none
returns-in-Ok-None-clause-none g c is first places failures far =
    let old = book_of g.G.Reusable.free g.G.Reusable.counted c.args.hall.now in
    so_far_flag c.args.gate.now (g.G.Gate.gives c.args.gate.now) (g.G.Gate.refuses c.args.gate.now) g.G.Gate.serves g.G.Reusable.answered g.G.Reusable.free g.G.Reusable.counted g.A.Accept.takes g.A.Accept.fails g.A.Listen.waits g.A.Reader.Source.left g.A.Reader.Close.is_closed g.A.Writer.Sink.contents (WasTold g.A.Writer.Sink.contents g.A.Writer.Sink.has_handed_on g.A.Writer.Sink.failures) c.args.terms first c.args.accept.now places (book_of g.G.Reusable.free g.G.Reusable.counted c.join_ended.new.hall) c.args.hall.now.any c.join_ended.new.hall.any failures None
    (so_far_on c.args.gate.now (g.G.Gate.gives c.args.gate.now) (g.G.Gate.refuses c.args.gate.now) g.G.Gate.serves g.G.Reusable.answered g.G.Reusable.free g.G.Reusable.counted g.A.Accept.takes g.A.Accept.fails g.A.Listen.waits g.A.Reader.Source.left g.A.Reader.Close.is_closed g.A.Writer.Sink.contents (WasTold g.A.Writer.Sink.contents g.A.Writer.Sink.has_handed_on g.A.Writer.Sink.failures) c.args.terms first c.args.accept.now places old (book_of g.G.Reusable.free g.G.Reusable.counted c.join_ended.new.hall) c.args.hall.now.any failures None far (c.join_ended.ensures.goes_on old none))
    c.join_ended.ensures.any

pub returns-in-Ok-None-clause-nobody : goal.returns-in-Ok-None-clause-nobody
returns-in-Ok-None-clause-nobody g c is = rw c.in-Ok-None.field-0-is at c.in-Ok-None.ensures.none

pub returns-in-Err-clause-none : goal.returns-in-Err-clause-none
returns-in-Err-clause-none g c is first places failures far =
    let old = book_of g.G.Reusable.free g.G.Reusable.counted c.args.hall.now in
    so_far_flag c.args.gate.now (g.G.Gate.gives c.args.gate.now) (g.G.Gate.refuses c.args.gate.now) g.G.Gate.serves g.G.Reusable.answered g.G.Reusable.free g.G.Reusable.counted g.A.Accept.takes g.A.Accept.fails g.A.Listen.waits g.A.Reader.Source.left g.A.Reader.Close.is_closed g.A.Writer.Sink.contents (WasTold g.A.Writer.Sink.contents g.A.Writer.Sink.has_handed_on g.A.Writer.Sink.failures) c.args.terms first c.args.accept.now places (book_of g.G.Reusable.free g.G.Reusable.counted c.join_ended-in-Err.new.hall) c.args.hall.now.any c.join_ended-in-Err.new.hall.any failures None
    (so_far_on c.args.gate.now (g.G.Gate.gives c.args.gate.now) (g.G.Gate.refuses c.args.gate.now) g.G.Gate.serves g.G.Reusable.answered g.G.Reusable.free g.G.Reusable.counted g.A.Accept.takes g.A.Accept.fails g.A.Listen.waits g.A.Reader.Source.left g.A.Reader.Close.is_closed g.A.Writer.Sink.contents (WasTold g.A.Writer.Sink.contents g.A.Writer.Sink.has_handed_on g.A.Writer.Sink.failures) c.args.terms first c.args.accept.now places old (book_of g.G.Reusable.free g.G.Reusable.counted c.join_ended-in-Err.new.hall) c.args.hall.now.any failures None far (c.join_ended-in-Err.ensures.goes_on old none))
    c.join_ended-in-Err.ensures.any

pub returns-in-Err-clause-failed : goal.returns-in-Err-clause-failed
returns-in-Err-clause-failed g c is = c.in-Err.ensures.failed
