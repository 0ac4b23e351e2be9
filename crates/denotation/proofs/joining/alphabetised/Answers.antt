use Rattle.std.proofs.Common.{◌≡◌, IfOk, ap, subst, ◌∙◌}
use Rattle.denotation.specs.Bodies.{Body, par, skip}
use Rattle.denotation.specs.Phrases.{joint_of}
use Rattle.denotation.specs.View.{body}
use Rattle.event_phrases.proofs.EventSetLaws.{outside_made, both_made}
use Rattle.denotation.proofs.joining.alphabetised.Goals as goal

pub returns : goal.returns
unfolding joint_of
returns g c = λ s h.
    let sigma = c.args.sigma in
    let x = outside_made s.channels sigma c.args.sets.0 c.minus-left_out.result h c.minus-left_out.ensures in
    let y = outside_made s.channels sigma c.args.sets.1 c.minus-right_out.result h c.minus-right_out.ensures in
    let z = both_made s.channels sigma c.args.sets.0 c.args.sets.1 c.minus-left_out.result c.minus-right_out.result c.minus-within_left.result c.minus-shared.result h c.minus-left_out.ensures c.minus-right_out.ensures c.minus-within_left.ensures c.minus-shared.ensures in
    let p = c.in_ok-first.ensures ∙ ap (λ A. par A (body c.args.first) skip) x in
    let q = c.in_ok-second.ensures ∙ ap (λ A. par A (body c.args.second) skip) y in
    subst (λ (b : Body). IfOk c.joined-3.result (λ d. body d ≡ b)) (λ i. par (z i) (p i) (q i)) c.joined-3.ensures
