use Rattle.std.proofs.Common.{◌≡◌, IfOk, subst, ◌∙◌}
use Rattle.connections.specs.Outcomes.{WasTold}
use Rattle.serving.specs.Services.{Ran}
use Rattle.serving.proofs.services.over_places.Goals as goal

pub returns-in-Ok-clause-ran : goal.returns-in-Ok-clause-ran
returns-in-Ok-clause-ran g c =
    let room : c.in-Ok.places.free ≡ 64 = c.in-Ok.ensures.places.0 ∙ c.from.ensures in
    subst (λ n. IfOk c.run.result (λ k. Ran g.L.Accept.takes g.L.Accept.fails g.L.Listen.waits g.L.Reader.Source.left g.L.Reader.Close.is_closed g.L.Writer.Sink.contents (WasTold g.L.Writer.Sink.contents g.L.Writer.Sink.has_handed_on g.L.Writer.Sink.failures) c.args.accept c.args.terms n g.N.Naming.spec g.N.Naming.opening
    k.session.history k.totals k.accept_failed k.answered)) room c.run.ensures.ran
