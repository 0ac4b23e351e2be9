use Rattle.std.proofs.Common.{◌≡◌, List, Ok, Err, IfOk, IfErr, IfSome, subst, sym}
use Rattle.std.specs.Prelude.{map}
use Rattle.shared.specs.View.{SeatView}
use Rattle.term.specs.Proc.{bodies_of}
use Rattle.shared.specs.Lasting.{Lasts}
use Rattle.shared.specs.Legal.{Legal}
use Rattle.shared.specs.Beginnings.{StartsWith}
use Rattle.shared.proofs.Keeping.{if_ok}
use Rattle.shared.proofs.ScriptLemmas.{if_err}
use Rattle.connections.specs.declared.outcome.Outcome.{Outcome}
use Rattle.connections.specs.Outcomes.{WasTold, ending_of, places_of}
use Rattle.serving.specs.Runs.{CameTo, Went}
use Rattle.serving.proofs.Closings.{went_of}
use Rattle.serving.proofs.sessions.over_seats.Goals as goal

pub returns-clause-went : goal.returns-clause-went
returns-clause-went g c =
    let served = c.serve_in-served in
    let finish = c.finish-session in
    let takes = g.L.Accept.takes in
    let fails = g.L.Accept.fails in
    let left = g.L.Reader.Source.left in
    let closed = g.L.Reader.Close.is_closed in
    let contents = g.L.Writer.Sink.contents in
    let told = WasTold g.L.Writer.Sink.contents g.L.Writer.Sink.has_handed_on g.L.Writer.Sink.failures in
    let spec = g.N.Naming.spec in
    let opening = g.N.Naming.opening in
    if_ok (λ k. (k.session ≡ finish.result.0) × (k.answered ≡ finish.result.1) × (k.endings ≡ served.new.endings) × (served.result ≡ Ok k.accept_failed))
    (λ k. Went takes fails left closed contents told c.args.accept c.args.count spec opening k.session.history k.endings.items k.accept_failed k.answered)
    c.close.result
    (λ k is.
    subst (λ s. Went takes fails left closed contents told c.args.accept c.args.count spec opening s.history k.endings.items k.accept_failed k.answered) (sym is.0)
    (subst (λ n. Went takes fails left closed contents told c.args.accept c.args.count spec opening finish.result.0.history k.endings.items k.accept_failed n) (sym is.1)
    (subst (λ es. Went takes fails left closed contents told c.args.accept c.args.count spec opening finish.result.0.history es.items k.accept_failed finish.result.1) (sym is.2)
    (went_of takes fails left closed contents told c.args.accept c.args.count spec opening finish.result.0.history served.new.shares.items served.new.endings.items k.accept_failed finish.result.1
    (subst (λ r. IfOk r (λ accept_failed. (outcomes : List (Outcome SeatView))
    × CameTo takes fails left closed contents told c.args.accept c.args.count spec opening outcomes accept_failed
    × (served.new.shares.items ≡ places_of outcomes) × (served.new.endings.items ≡ map ending_of outcomes))) is.3 served.ensures.served)
    finish.ensures.counted finish.ensures.told))))
    c.close.ensures.closed

pub returns-clause-session : goal.returns-clause-session
returns-clause-session g c =
    let served = c.serve_in-served in
    let finish = c.finish-session in
    let spec = g.N.Naming.spec in
    if_ok (λ k. (k.session ≡ finish.result.0) × (k.answered ≡ finish.result.1) × (k.endings ≡ served.new.endings) × (served.result ≡ Ok k.accept_failed))
    (λ k. (k.session.spec ≡ spec) × StartsWith k.session.history g.N.Naming.opening × Legal (bodies_of spec.bodies) k.session.history)
    c.close.result
    (λ k is. subst (λ s. (s.spec ≡ spec) × StartsWith s.history g.N.Naming.opening × Legal (bodies_of spec.bodies) s.history) (sym is.0) finish.ensures.session)
    c.close.ensures.closed

pub returns-clause-lasts : goal.returns-clause-lasts
returns-clause-lasts g c =
    let served = c.serve_in-served in
    let finish = c.finish-session in
    if_ok (λ k. (k.session ≡ finish.result.0) × (k.answered ≡ finish.result.1) × (k.endings ≡ served.new.endings) × (served.result ≡ Ok k.accept_failed))
    (λ k. IfSome g.N.Sharing.before (λ before. Lasts g.J.Recorder.recording before k.session))
    c.close.result
    (λ k is. subst (λ s. IfSome g.N.Sharing.before (λ before. Lasts g.J.Recorder.recording before s)) (sym is.0) finish.ensures.lasts)
    c.close.ensures.closed

pub returns-clause-memory : goal.returns-clause-memory
returns-clause-memory g c =
    let served = c.serve_in-served in
    if_err (λ e. served.result ≡ Err e) (λ e. e.1 ≡ c.args.accept) c.close.result
    (λ e is. subst (λ r. IfErr r (λ error. error.1 ≡ c.args.accept)) is served.ensures.memory)
    c.close.ensures.memory
