use Rattle.std.proofs.Common.{◌≡◌}
use Rattle.std.proofs.lemmas.Bool.{ltb-true, lt-ltb}
use Rattle.term.specs.Proc.{bodies_of}
use Rattle.nodes.specs.Shapes.{at}
use Rattle.transitions.specs.Unfolding.{capped, unfolded}
use Rattle.transitions.proofs.Unfolding.{deep-says}
use Rattle.transitions.proofs.transitions.Transitions.has_deep_target.Goals as goal

pub returns-clause-deep : goal.returns-clause-deep
returns-clause-deep g c =
    let s = c.args.self.now in
    let B = bodies_of s.bodies in
    let P = at s.table.processes c.args.number in
    let n = c.from.result in
    let e : n ≡ capped (unfolded B P) = cc (c.from.ensures, c.in_ok-depth.ensures.depth) in
    let deep = deep-says B P n c.requires.shallow e in
    ((λ h. deep.0 (ltb-true 1000 n h)), (λ h. lt-ltb 1000 n (deep.1 h)))
