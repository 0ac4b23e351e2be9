use Rattle.std.proofs.Common.{◌≡◌, ap, rules, subst, sym, ◌∙◌}
use Rattle.std.specs.Prelude.{◌&&◌, ◌==◌, IfNone, None, Some}
use Rattle.connections.specs.Outcomes.{WasTold}
use Rattle.connections.specs.Visiting.{IsSoFar, book_of}
use Rattle.connections.proofs.SoFar.{promises_long, so_far_looked}
use Rattle.connections.proofs.services.take_all.Goals as goal

pub loop-turn-preserved : goal.loop-turn-preserved
loop-turn-preserved g c = record {
  so_far = λ first places far.
      let at = c.loop-turn in
      let looked = so_far_looked c.args.gate.now (g.G.Gate.gives c.args.gate.now) (g.G.Gate.refuses c.args.gate.now) g.G.Gate.serves g.G.Reusable.answered g.G.Reusable.free g.G.Reusable.counted g.A.Accept.takes g.A.Accept.fails g.A.Listen.waits g.A.Reader.Source.left g.A.Reader.Close.is_closed g.A.Writer.Sink.contents (WasTold g.A.Writer.Sink.contents g.A.Writer.Sink.has_handed_on g.A.Writer.Sink.failures) c.args.terms first at.accept c.take_next-look.new.accept places (book_of g.G.Reusable.free g.G.Reusable.counted at.hall) (book_of g.G.Reusable.free g.G.Reusable.counted c.take_next-look.new.hall) at.hall.any c.take_next-look.new.hall.any at.failures c.closing.new.failures c.take_next-look.result c.is_idle-idle.result c.closing.result
      (λ is. c.take_next-look.ensures.taken is first places at.failures) (λ is. c.take_next-look.ensures.none is first places at.failures) c.take_next-look.ensures.nobody c.take_next-look.ensures.failed
      (c.is_idle-idle.ensures ∙ ap (λ n. c.take_next-look.new.hall.any && (n == 0)) (sym (promises_long c.take_next-look.new.hall.running.items)))
      c.closing.ensures.taken c.closing.ensures.nobody c.closing.ensures.failed (at.invariant.so_far first places far) in
      let is : c.closing.result ≡ None = search rules in
      let same = subst (λ e. IfNone e (looked.0 ≡ c.closing.new.failures)) is looked.2 in
      subst (λ n. IsSoFar c.args.gate.now (g.G.Gate.gives c.args.gate.now) (g.G.Gate.refuses c.args.gate.now) g.G.Gate.serves g.G.Reusable.answered g.G.Reusable.free g.G.Reusable.counted g.A.Accept.takes g.A.Accept.fails g.A.Listen.waits g.A.Reader.Source.left g.A.Reader.Close.is_closed g.A.Writer.Sink.contents (WasTold g.A.Writer.Sink.contents g.A.Writer.Sink.has_handed_on g.A.Writer.Sink.failures) c.args.terms first c.take_next-look.new.accept places (book_of g.G.Reusable.free g.G.Reusable.counted c.take_next-look.new.hall) c.take_next-look.new.hall.any n None) same
      (subst (λ e. IsSoFar c.args.gate.now (g.G.Gate.gives c.args.gate.now) (g.G.Gate.refuses c.args.gate.now) g.G.Gate.serves g.G.Reusable.answered g.G.Reusable.free g.G.Reusable.counted g.A.Accept.takes g.A.Accept.fails g.A.Listen.waits g.A.Reader.Source.left g.A.Reader.Close.is_closed g.A.Writer.Sink.contents (WasTold g.A.Writer.Sink.contents g.A.Writer.Sink.has_handed_on g.A.Writer.Sink.failures) c.args.terms first c.take_next-look.new.accept places (book_of g.G.Reusable.free g.G.Reusable.counted c.take_next-look.new.hall) c.take_next-look.new.hall.any looked.0 e) is looked.1);
  capacity = search rules;
}

pub returns-in-Some-closing : goal.returns-in-Some-closing
returns-in-Some-closing g c first places far =
    let at = c.loop-turn in
    let looked = so_far_looked c.args.gate.now (g.G.Gate.gives c.args.gate.now) (g.G.Gate.refuses c.args.gate.now) g.G.Gate.serves g.G.Reusable.answered g.G.Reusable.free g.G.Reusable.counted g.A.Accept.takes g.A.Accept.fails g.A.Listen.waits g.A.Reader.Source.left g.A.Reader.Close.is_closed g.A.Writer.Sink.contents (WasTold g.A.Writer.Sink.contents g.A.Writer.Sink.has_handed_on g.A.Writer.Sink.failures) c.args.terms first at.accept c.take_next-look.new.accept places (book_of g.G.Reusable.free g.G.Reusable.counted at.hall) (book_of g.G.Reusable.free g.G.Reusable.counted c.take_next-look.new.hall) at.hall.any c.take_next-look.new.hall.any at.failures c.closing.new.failures c.take_next-look.result c.is_idle-idle.result (Some c.in-Some-closing.accept_failed)
    (λ is. c.take_next-look.ensures.taken is first places at.failures) (λ is. c.take_next-look.ensures.none is first places at.failures) c.take_next-look.ensures.nobody c.take_next-look.ensures.failed
    (c.is_idle-idle.ensures ∙ ap (λ n. c.take_next-look.new.hall.any && (n == 0)) (sym (promises_long c.take_next-look.new.hall.running.items)))
    c.in-Some-closing.ensures.taken c.in-Some-closing.ensures.nobody c.in-Some-closing.ensures.failed (at.invariant.so_far first places far) in
    (looked.0, looked.1)
