use Rattle.std.proofs.Common.{◌≡◌, sym, subst}
use Rattle.term.specs.Proc.{bodies_of}
use Rattle.shared.specs.Beginnings.{StartsWith}
use Rattle.shared.specs.Legal.{Legal}
use Rattle.connections.specs.Outcomes.{WasTold}
use Rattle.serving.specs.Plans.{terms_of}
use Rattle.serving.specs.Services.{Ran}
use Rattle.serving.proofs.runs.run_service.Goals as goal

pub returns-in-Ok-clause-ran : goal.returns-in-Ok-clause-ran
returns-in-Ok-clause-ran g c =
    let takes = g.L.Accept.takes in
    let fails = g.L.Accept.fails in
    let waits = g.L.Listen.waits in
    let left = g.L.Reader.Source.left in
    let is_closed = g.L.Reader.Close.is_closed in
    let contents = g.L.Writer.Sink.contents in
    let told = WasTold g.L.Writer.Sink.contents g.L.Writer.Sink.has_handed_on g.L.Writer.Sink.failures in
    let spec = c.args.session.spec in
    let opening = c.args.session.history in
    let terms = terms_of c.args.until_idle c.args.retries in
    let closed = c.in-Ok.closed in
    let run = c.run_of_service.result in
    let e = c.run_of_service.ensures in (
      closed.answered,
      subst (λ s. Ran takes fails waits left is_closed contents told c.args.accept terms 64 spec opening s.history run.totals run.accept_failed closed.answered) (sym e.0)
          (subst (λ totals. Ran takes fails waits left is_closed contents told c.args.accept terms 64 spec opening closed.session.history totals run.accept_failed closed.answered) (sym e.1)
          (subst (λ failed. Ran takes fails waits left is_closed contents told c.args.accept terms 64 spec opening closed.session.history closed.totals failed closed.answered) (sym e.2) c.in-Ok.ensures.ran)),
    )

pub returns-in-Ok-clause-session : goal.returns-in-Ok-clause-session
returns-in-Ok-clause-session g c =
    let opened = c.args.session in
    subst (λ s. (s.spec ≡ opened.spec) × StartsWith s.history opened.history × Legal (bodies_of opened.spec.bodies) s.history) (sym c.run_of_service.ensures.0) c.in-Ok.ensures.session
