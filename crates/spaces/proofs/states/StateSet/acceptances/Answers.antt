use Rattle.std.proofs.Common.{◌≤◌, arith}
use Rattle.std.proofs.lemmas.Result.{IfOk-weaker}
use Rattle.alphabet.specs.Channels.{event_count}
use Rattle.tau_closures.proofs.KeptBelongings.{kept-set-lies}
use Rattle.tau_closures.specs.Unfolding.{unfolding_depth}
use Rattle.term.specs.Specs.{IsClosed}
use Rattle.spaces.specs.Spaces.{states}
use Rattle.spaces.proofs.Accepting.{are-acceptances}
use Rattle.spaces.proofs.states.StateSet.acceptances.Goals as goal

pub returns-in-Some : goal.returns-in-Some
returns-in-Some g c =
    λ u b.
    let s = c.args.space.now in
    let set = c.args.self in
    let few : event_count s.spec.alphabet ≤ 256 = rw (c.len.ensures.count, c.alphabet.ensures, c.spec.ensures.spec) at c.len.ensures.limit in
    let closed : IsClosed s.spec = c.spec.ensures.closed in
    IfOk-weaker c.acceptances.result _ _
    (λ sets k. are-acceptances s set u c.in-Some.facts.now sets.items b few (kept-set-lies s.spec closed (unfolding_depth s.spec) u (states s set) b.exact) c.in-Some.ensures.known k.0 k.1)
    c.acceptances.ensures

pub returns-in-None : goal.returns-in-None
returns-in-None g c = λ u b. absurd (omega (arith, b.within, c.in-None.ensures.none))
