use Rattle.std.proofs.Common.{◌≡◌, sym, subst}
use Rattle.term.specs.Proc.{bodies_of}
use Rattle.shared.specs.Beginnings.{StartsWith}
use Rattle.shared.specs.Legal.{Legal}
use Rattle.connections.specs.Outcomes.{WasTold}
use Rattle.serving.specs.Runs.{Went}
use Rattle.serving.proofs.runs.run_some.Goals as goal

pub returns-in-Ok-clause-went : goal.returns-in-Ok-clause-went
returns-in-Ok-clause-went g c =
    let takes = g.L.Accept.takes in
    let fails = g.L.Accept.fails in
    let left = g.L.Reader.Source.left in
    let is_closed = g.L.Reader.Close.is_closed in
    let contents = g.L.Writer.Sink.contents in
    let told = WasTold g.L.Writer.Sink.contents g.L.Writer.Sink.has_handed_on g.L.Writer.Sink.failures in
    let spec = c.args.session.spec in
    let opening = c.args.session.history in
    let closing = c.in-Ok.closing in
    let run = c.run_of.result in
    let e = c.run_of.ensures in (
      closing.endings.items,
      closing.answered,
      subst (λ s. Went takes fails left is_closed contents told c.args.accept c.args.connections spec opening s.history closing.endings.items run.accept_failed closing.answered) (sym e.session)
          (subst (λ failed. Went takes fails left is_closed contents told c.args.accept c.args.connections spec opening closing.session.history closing.endings.items failed closing.answered) (sym e.accept) c.in-Ok.ensures.went),
      e.totals,
    )

pub returns-in-Ok-clause-session : goal.returns-in-Ok-clause-session
returns-in-Ok-clause-session g c =
    let opened = c.args.session in
    subst (λ s. (s.spec ≡ opened.spec) × StartsWith s.history opened.history × Legal (bodies_of opened.spec.bodies) s.history) (sym c.run_of.ensures.session) c.in-Ok.ensures.session
