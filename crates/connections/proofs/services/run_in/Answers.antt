use Rattle.std.proofs.Common.{sym, ap, subst, refl, arith, ◌∙◌}
use Rattle.std.specs.Prelude.{◌+◌, Some, length, map, sum_by}
use Rattle.connections.specs.Outcomes.{WasTold, ending_of, places_of}
use Rattle.connections.specs.Services.{Goes, IsStep, IsSum, beginning, steps_by, taken_of}
use Rattle.connections.specs.Visiting.{book_of, none, promises, refusal_in, visits_of}
use Rattle.connections.proofs.SoFar.{IsNone, all_held, all_looks, all_past, all_stands, book, pasts, so_far_none, so_far_on}
use Rattle.connections.proofs.services.run_in.Goals as goal

pub returns : goal.returns
returns g c =
    let taken = c.take_all-accept_failed in
    let begun = so_far_none c.args.gate.now (g.G.Gate.gives c.args.gate.now) (g.G.Gate.refuses c.args.gate.now) g.G.Gate.serves g.G.Reusable.answered g.G.Reusable.free g.G.Reusable.counted g.A.Accept.takes g.A.Accept.fails g.A.Listen.waits g.A.Reader.Source.left g.A.Reader.Close.is_closed g.A.Writer.Sink.contents (WasTold g.A.Writer.Sink.contents g.A.Writer.Sink.has_handed_on g.A.Writer.Sink.failures) c.args.terms c.args.accept c.args.places (book (promises c.args.running.items) c.new.result (g.G.Reusable.free c.args.places) (g.G.Reusable.counted c.args.places)) (ap promises c.requires.running.0) c.new.ensures refl refl in
    let far = taken.ensures c.args.accept c.args.places begun in
    let last = so_far_on c.args.gate.now (g.G.Gate.gives c.args.gate.now) (g.G.Gate.refuses c.args.gate.now) g.G.Gate.serves g.G.Reusable.answered g.G.Reusable.free g.G.Reusable.counted g.A.Accept.takes g.A.Accept.fails g.A.Listen.waits g.A.Reader.Source.left g.A.Reader.Close.is_closed g.A.Writer.Sink.contents (WasTold g.A.Writer.Sink.contents g.A.Writer.Sink.has_handed_on g.A.Writer.Sink.failures) c.args.terms c.args.accept taken.new.accept c.args.places (book_of g.G.Reusable.free g.G.Reusable.counted taken.new.hall) (book_of g.G.Reusable.free g.G.Reusable.counted c.join_all.new.hall) taken.new.hall.any far.0 (Some taken.result) far.1
    (c.join_all.ensures.goes_on (book_of g.G.Reusable.free g.G.Reusable.counted taken.new.hall) none) in
    let empty = ap promises c.join_all.ensures.none in
    let nobody : IsNone (visits_of (taken_of last.0.states)) = subst IsNone (sym (last.0.there ∙ empty)) tt in
    let alone = ap length (last.0.there ∙ empty) in
    let free_are = last.0.free_are in
    let all = all_past c.args.gate.now (g.G.Gate.gives c.args.gate.now) (g.G.Gate.refuses c.args.gate.now) g.G.Gate.serves g.G.Reusable.answered g.G.Reusable.free g.G.Reusable.counted g.A.Accept.takes g.A.Accept.fails g.A.Listen.waits g.A.Reader.Source.left g.A.Reader.Close.is_closed g.A.Writer.Sink.contents (WasTold g.A.Writer.Sink.contents g.A.Writer.Sink.has_handed_on g.A.Writer.Sink.failures) c.args.terms last.0.states nobody in
    record {
      steps = pasts c.args.gate.now (g.G.Gate.gives c.args.gate.now) (g.G.Gate.refuses c.args.gate.now) g.G.Gate.serves g.G.Reusable.answered g.G.Reusable.free g.G.Reusable.counted g.A.Accept.takes g.A.Accept.fails g.A.Listen.waits g.A.Reader.Source.left g.A.Reader.Close.is_closed g.A.Writer.Sink.contents (WasTold g.A.Writer.Sink.contents g.A.Writer.Sink.has_handed_on g.A.Writer.Sink.failures) c.args.terms last.0.states;
      last = taken.new.accept;
      failures = far.0;
      any = taken.new.hall.any;
      looks = all_looks c.args.gate.now (g.G.Gate.gives c.args.gate.now) (g.G.Gate.refuses c.args.gate.now) g.G.Gate.serves g.G.Reusable.answered g.G.Reusable.free g.G.Reusable.counted g.A.Accept.takes g.A.Accept.fails g.A.Listen.waits g.A.Reader.Source.left g.A.Reader.Close.is_closed g.A.Writer.Sink.contents (WasTold g.A.Writer.Sink.contents g.A.Writer.Sink.has_handed_on g.A.Writer.Sink.failures) c.args.terms c.args.accept taken.new.accept last.0.states last.0.looks nobody;
      stands = subst (λ l. Goes (IsStep (g.G.Gate.refuses c.args.gate.now) c.args.terms (g.G.Reusable.free c.args.places)) beginning l (record { there = 0; any = taken.new.hall.any; failures = far.0; ended = Some taken.result })) (sym (all_stands c.args.gate.now (g.G.Gate.gives c.args.gate.now) (g.G.Gate.refuses c.args.gate.now) g.G.Gate.serves g.G.Reusable.answered g.G.Reusable.free g.G.Reusable.counted g.A.Accept.takes g.A.Accept.fails g.A.Listen.waits g.A.Reader.Source.left g.A.Reader.Close.is_closed g.A.Writer.Sink.contents (WasTold g.A.Writer.Sink.contents g.A.Writer.Sink.has_handed_on g.A.Writer.Sink.failures) c.args.terms last.0.states nobody))
          (subst (λ vs. Goes (IsStep (g.G.Gate.refuses c.args.gate.now) c.args.terms (g.G.Reusable.free c.args.places)) beginning (steps_by refusal_in last.0.states) (record { there = length vs; any = taken.new.hall.any; failures = far.0; ended = Some taken.result })) empty last.0.stands);
      held = all_held c.args.gate.now (g.G.Gate.gives c.args.gate.now) (g.G.Gate.refuses c.args.gate.now) g.G.Gate.serves g.G.Reusable.answered g.G.Reusable.free g.G.Reusable.counted g.A.Accept.takes g.A.Accept.fails g.A.Listen.waits g.A.Reader.Source.left g.A.Reader.Close.is_closed g.A.Writer.Sink.contents (WasTold g.A.Writer.Sink.contents g.A.Writer.Sink.has_handed_on g.A.Writer.Sink.failures) c.args.terms last.0.states nobody last.1;
      sum = subst (λ os. IsSum (map ending_of os) c.join_all.new.hall.totals) (sym all) last.0.sum;
      free_are = omega (arith, alone, free_are);
      counted_are = last.0.counted_are ∙ ap (λ os. g.G.Reusable.counted c.args.places + sum_by g.G.Reusable.answered (places_of os)) (sym all);
    }
