use Rattle.std.proofs.Common.{◌≡◌, ◌+◌, Ok, Err, IfOk, IfErr, arith, length, subst, sym}
use Rattle.shared.specs.View.{PlacesView}
use Rattle.shared.proofs.Keeping.{if_ok}
use Rattle.shared.proofs.ScriptLemmas.{if_err}
use Rattle.connections.specs.declared.services.Closed.{Closed}
use Rattle.connections.specs.Outcomes.{WasTold}
use Rattle.serving.specs.Services.{Ran}
use Rattle.serving.proofs.ServiceClosings.{CameOf, ran_of}
use Rattle.serving.proofs.services.run.Goals as goal

pub end-requires-clause-free : goal.end-requires-clause-free
end-requires-clause-free g c =
    if_ok (CameOf g.L.Accept.takes g.L.Accept.fails g.L.Listen.waits g.L.Reader.Source.left g.L.Reader.Close.is_closed g.L.Writer.Sink.contents (WasTold g.L.Writer.Sink.contents g.L.Writer.Sink.has_handed_on g.L.Writer.Sink.failures) c.args.accept c.args.places c.args.terms g.N.Naming.spec g.N.Naming.opening)
    (λ (closed : Closed PlacesView). closed.places.free + 2 ≡ g.N.Naming.all) c.serve_at-served.result
    (λ closed came. let free = came.free_are in let begun = c.requires.places.0 in omega (arith, free, begun))
    c.serve_at-served.ensures.served

pub returns-clause-ran : goal.returns-clause-ran
returns-clause-ran g c =
    let takes = g.L.Accept.takes in
    let fails = g.L.Accept.fails in
    let waits = g.L.Listen.waits in
    let left = g.L.Reader.Source.left in
    let is_closed = g.L.Reader.Close.is_closed in
    let contents = g.L.Writer.Sink.contents in
    let told = WasTold g.L.Writer.Sink.contents g.L.Writer.Sink.has_handed_on g.L.Writer.Sink.failures in
    let spec = g.N.Naming.spec in
    let opening = g.N.Naming.opening in
    let terms = c.args.terms in
    if_ok (λ k. (closed : Closed PlacesView) × (c.serve_at-served.result ≡ Ok closed) × (k.totals ≡ closed.totals) × (k.accept_failed ≡ closed.accept_failed)
    × (length k.session.history ≡ length opening + k.answered) × (k.answered ≡ closed.places.receipts))
    (λ k. Ran takes fails waits left is_closed contents told c.args.accept terms c.args.places.free spec opening k.session.history k.totals k.accept_failed k.answered)
    c.end.result
    (λ k h.
    let came : CameOf takes fails waits left is_closed contents told c.args.accept c.args.places terms spec opening h.0 =
    subst (λ r. IfOk r (CameOf takes fails waits left is_closed contents told c.args.accept c.args.places terms spec opening)) h.1 c.serve_at-served.ensures.served in
    subst (λ totals. Ran takes fails waits left is_closed contents told c.args.accept terms c.args.places.free spec opening k.session.history totals k.accept_failed k.answered) (sym h.2)
    (subst (λ failed. Ran takes fails waits left is_closed contents told c.args.accept terms c.args.places.free spec opening k.session.history h.0.totals failed k.answered) (sym h.3)
    (ran_of takes fails waits left is_closed contents told c.args.accept c.args.places terms spec opening k.session.history h.0 k.answered came c.requires.places.1 h.4 h.5)))
    c.end.ensures.ended

pub returns-clause-memory : goal.returns-clause-memory
returns-clause-memory g c =
    if_err (λ e. (places : PlacesView) × (c.serve_at-served.result ≡ Err (e.0, e.1, places))) (λ e. e.1 ≡ c.args.accept) c.end.result
    (λ e h. subst (λ r. IfErr r (λ error. error.1 ≡ c.args.accept)) h.1 c.serve_at-served.ensures.memory)
    c.end.ensures.memory
