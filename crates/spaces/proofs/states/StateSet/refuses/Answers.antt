use Rattle.std.proofs.Common.{arith}
use Rattle.alphabet.specs.EventSets.{member}
use Rattle.term.specs.Proc.{bodies_of}
use Rattle.tau_closures.proofs.KeptBelongings.{kept-refuses-failure}
use Rattle.tau_closures.specs.Unfolding.{unfolding_depth}
use Rattle.spaces.specs.Spaces.{states}
use Rattle.spaces.proofs.states.StateSet.refuses.Goals as goal

pub returns-in-Some : goal.returns-in-Some
returns-in-Some g c =
    λ u b.
    let s = c.args.space.now in
    let t = kept-refuses-failure s.spec (unfolding_depth s.spec) u (states s c.args.self) b.exact (member c.args.set.now) in
    let n = c.refuse.ensures (states s c.args.self) (bodies_of s.spec.bodies) c.in-Some.ensures.known in
    ((λ h. t.0 (n.0 h)), (λ h. n.1 (t.1 h)))

pub returns-in-None : goal.returns-in-None
returns-in-None g c = λ u b. absurd (omega (arith, b.within, c.in-None.ensures.none))
