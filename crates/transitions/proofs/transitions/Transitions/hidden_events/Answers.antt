use Rattle.std.proofs.Common.{ℕ}
use Rattle.std.specs.declared.vec.Vec.{Vec}
use Rattle.nodes.specs.Shapes.{at, set_at}
use Rattle.transitions.proofs.Asking.{if-both, hidden-asked}
use Rattle.transitions.proofs.transitions.Transitions.hidden_events.Goals as goal

pub returns : goal.returns
returns g c =
    let t = c.args.self.now.table in
    if-both c.events_in.result _ _ _ c.events_in.ensures.only c.events_in.ensures.all
    (λ (events : Vec ℕ g.row.A.Denot) only all. hidden-asked (set_at t.parameters c.args.set) c.set-hidden.result c.facts-offered.result.offers c.minus.result c.minus-2.result (at t.processes c.args.p) events.items
    c.set-hidden.ensures c.requires.small c.facts-offered.ensures.offers_are c.minus.ensures c.minus-2.ensures only all)
