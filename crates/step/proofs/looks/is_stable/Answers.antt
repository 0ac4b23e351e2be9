use Rattle.term.specs.Proc.{proc}
use Rattle.targets.proofs.Rest.{resting-says}
use Rattle.step.proofs.looks.is_stable.Goals as goal

pub returns : goal.returns
returns g c =
    λ B.
    let says = resting-says B (proc c.args.term.now) in
    let k = c.facts_of_term.ensures in
    ((λ t. says.0 (k.rests_is.0 t)), (λ s. k.rests_is.1 (says.1 s)))
