use Rattle.std.proofs.Common.{List, ◌∷◌, [], subst}
use Rattle.term.specs.Proc.{Proc}
use Rattle.term.specs.Steps.{Hid}
use Rattle.targets.specs.Among.{Joined}
use Rattle.nodes.specs.Shapes.{at}
use Rattle.nodes.specs.Looks.{look}
use Rattle.nodes.proofs.Looking.{below-grown, look-grown}
use Rattle.nodes.proofs.HiddenSteps.{end-found, end-none}
use Rattle.nodes.proofs.table.Table.put_end.Goals as goal

pub add-requires-clause-here : goal.add-requires-clause-here
add-requires-clause-here g c = below-grown c.args.self.now c.put.new.self c.put.ensures.grown c.args.into.now.items c.requires.here

pub returns-in_ok-add-clause-cut : goal.returns-in_ok-add-clause-cut
returns-in_ok-add-clause-cut g c =
    let t = c.args.self.now in
    let u = c.put.new.self in
    let P = at t.processes c.args.side in
    let most = c.args.most in
    let old = look t.processes c.args.into.now.items in
    let found = look u.processes c.add.new.into.items in
    λ B d.
    end-found (Hid B P) P most old found c.facts-facts.result.ticks c.facts-facts.result.skip c.facts-facts.ensures.ticks_is c.facts-facts.ensures.skip_is c.if-ends.true d
    (subst (λ (Q : Proc). Joined most old (Q ∷ []) found) c.in_ok-skip.ensures.number.is
    (subst (λ (l : List Proc). Joined most l (at u.processes c.in_ok-skip.skip ∷ []) found) (look-grown t u c.put.ensures.grown c.args.into.now.items c.requires.here) c.in_ok-add.ensures.joined))

pub returns-else-ends-clause-cut : goal.returns-else-ends-clause-cut
returns-else-ends-clause-cut g c =
    let t = c.args.self.now in
    let P = at t.processes c.args.side in
    λ B d.
    end-none (Hid B P) P c.args.most (look t.processes c.args.into.now.items) c.facts-facts.result.ticks c.facts-facts.result.skip c.facts-facts.ensures.ticks_is c.facts-facts.ensures.skip_is c.if-ends.false d
