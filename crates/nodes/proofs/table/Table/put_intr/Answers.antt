use Rattle.std.proofs.Common.{List, map, ap, sym, subst}
use Rattle.term.specs.Proc.{Proc, intr}
use Rattle.targets.specs.Among.{Joined}
use Rattle.nodes.specs.Looks.{look}
use Rattle.nodes.proofs.Looking.{below-grown, look-grown}
use Rattle.nodes.proofs.Acting.{intr-acts}
use Rattle.nodes.proofs.table.Table.put_intr.Goals as goal

pub join-requires-clause-numbers : goal.join-requires-clause-numbers
join-requires-clause-numbers g c = below-grown c.args.self.now c.put_each.new.self c.put_each.ensures.grown c.args.rights.now c.requires.rights

pub returns-clause-cut : goal.returns-clause-cut
returns-clause-cut g c =
    let t = c.args.self.now in
    let u = c.put_each.new.self in
    let none = look t.processes c.args.into.now.items in
    let middle = look u.processes c.put_each.new.into.items in
    let found = look u.processes c.join.new.into.items in
    let lefts = look t.processes c.args.lefts.now in
    λ P Q a s d e.
    intr-acts a c.args.most none found (ap (look t.processes) c.requires.empty) P Q lefts (look t.processes c.args.rights.now) middle d e
    (subst (λ (X : Proc). Joined c.args.most none (map (λ p. intr p X) lefts) middle) (sym s) c.in_ok-put_each.ensures.joined)
    (subst (λ (l : List Proc). Joined c.args.most middle l found) (look-grown t u c.put_each.ensures.grown c.args.rights.now c.requires.rights) c.in_ok-join.ensures.joined)
