use Rattle.std.proofs.Common.{List, subst}
use Rattle.term.specs.Proc.{Proc}
use Rattle.targets.specs.Among.{Joined}
use Rattle.nodes.specs.Looks.{look}
use Rattle.nodes.proofs.Looking.{below-grown, each-grown, place-grown}
use Rattle.nodes.proofs.table.Table.put_two.Goals as goal

pub put_each-requires-2-clause-place : goal.put_each-requires-2-clause-place
put_each-requires-2-clause-place g c = place-grown c.args.self.now c.put_each.new.self c.put_each.ensures.grown c.args.right c.requires.right

pub put_each-requires-2-clause-parts : goal.put_each-requires-2-clause-parts
put_each-requires-2-clause-parts g c = below-grown c.args.self.now c.put_each.new.self c.put_each.ensures.grown c.args.rights.now c.requires.rights

pub returns-clause-joined : goal.returns-clause-joined
returns-clause-joined g c =
    let t = c.args.self.now in
    let u = c.put_each.new.self in
    let v = c.put_each-2.new.self in
    let middle = look u.processes c.put_each.new.into.items in (
      middle,
      c.in_ok-put_each.ensures.joined,
      subst (λ (l : List Proc). Joined c.args.most middle l (look v.processes c.put_each-2.new.into.items)) (each-grown t u c.put_each.ensures.grown c.args.right c.args.rights.now c.requires.right c.requires.rights) c.in_ok-put_each-2.ensures.joined,
    )
