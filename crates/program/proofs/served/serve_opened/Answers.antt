use Rattle.std.proofs.Common.{◌≡◌, ◌<◌, ℕ, sym, subst}
use Rattle.std.specs.Prelude.{is_some}
use Rattle.term.specs.Proc.{bodies_of}
use Rattle.shared.specs.Beginnings.{StartsWith}
use Rattle.shared.specs.Entries.{summary_of}
use Rattle.shared.specs.Legal.{IsJudged, Legal}
use Rattle.shared.specs.Records.{AreReports, names_of}
use Rattle.connections.specs.Outcomes.{WasTold}
use Rattle.serving.specs.Plans.{WentBy}
use Rattle.program.specs.Servers.{IsTold}
use Rattle.program.proofs.served.serve_opened.Goals as goal

pub returns-in-Ok-serve-clause-session : goal.returns-in-Ok-serve-clause-session
returns-in-Ok-serve-clause-session g c =
    let opened = c.args.session in
    subst (λ s. (s.spec ≡ opened.spec) × StartsWith s.history opened.history × Legal (bodies_of opened.spec.bodies) s.history) (sym c.end.ensures.session) c.in-Ok-serve.ensures.session

pub returns-in-Ok-serve-clause-judged : goal.returns-in-Ok-serve-clause-judged
returns-in-Ok-serve-clause-judged g c =
    let e = c.end.ensures in
    subst (λ s. IsJudged s.spec s.history × AreReports s.spec.alphabet s.history × (s.spec.names ≡ names_of (g.J.Recorder.recording.version s.journal))) (sym e.session) (e.judged, e.reports, e.names)

pub returns-in-Ok-serve-clause-served : goal.returns-in-Ok-serve-clause-served
returns-in-Ok-serve-clause-served g c =
    let takes = g.S.Accept.Accept.takes in
    let fails = g.S.Accept.Accept.fails in
    let waits = g.S.Accept.Listen.waits in
    let left = g.S.Accept.Reader.Source.left in
    let is_closed = g.S.Accept.Reader.Close.is_closed in
    let contents = g.S.Accept.Writer.Sink.contents in
    let told = WasTold g.S.Accept.Writer.Sink.contents g.S.Accept.Writer.Sink.has_handed_on g.S.Accept.Writer.Sink.failures in
    let d = c.args.demand in
    let opened = c.args.session in
    let run = c.in-Ok-serve.run' in
    let end = c.end.result in
    let back = sym c.end.ensures.session in
    let said = g.O.Sink.contents c.open.new.output in
    let written = g.O.Sink.contents c.end.new.output in
    let failures = g.O.Sink.failures c.end.new.output in
    record {
      accept = c.in-Ok.accept;
      open_doors = c.open.new.self;
      told = said;
      totals = run.totals;
      accept_failed = run.accept_failed;
      opened = c.in-Ok.ensures.opened;
      went = subst (λ s. WentBy takes fails waits left is_closed contents told c.in-Ok.accept d.plan d.retries d.counts opened.spec opened.history s.history run.totals run.accept_failed) back c.in-Ok-serve.ensures.went;
      shut = c.close.ensures;
      ended = subst (λ (n : ℕ). IsTold end.line (summary_of end.session.history) (is_some end.session.failed) run.totals run.accept_failed said written (n < failures) end.exit) c.in-Ok.ensures.steady
          (subst (λ s. IsTold end.line (summary_of s.history) (is_some s.failed) run.totals run.accept_failed said written (g.O.Sink.failures c.open.new.output < failures) end.exit) back c.end.ensures.told);
    }

pub returns-in-Err-serve-clause-doors : goal.returns-in-Err-serve-clause-doors
returns-in-Err-serve-clause-doors g c = (c.in-Ok.accept, c.in-Ok.ensures.opened)
