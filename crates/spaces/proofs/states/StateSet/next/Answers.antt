use Rattle.std.proofs.Common.{arith}
use Rattle.tau_closures.proofs.KeptBelongings.{kept-takes-trace}
use Rattle.tau_closures.specs.Unfolding.{unfolding_depth}
use Rattle.spaces.specs.Spaces.{states}
use Rattle.spaces.proofs.states.StateSet.next.Goals as goal

pub returns-in-Some : goal.returns-in-Some
returns-in-Some g c =
    λ u b x.
    let t = kept-takes-trace c.args.space.now.spec (unfolding_depth c.args.space.now.spec) u (states c.args.space.now c.args.self) b.exact x in
    let n = c.in-Some.ensures.known.next_is x in
    ((λ h. t.0 (n.0 h)), (λ h. n.1 (t.1 h)))

pub returns-in-None : goal.returns-in-None
returns-in-None g c = λ u b x. absurd (omega (arith, b.within, c.in-None.ensures.none))
