use Rattle.std.proofs.Common.{[], ◌∷◌, ap, sym, subst, ◌∙◌}
use Rattle.term.specs.Proc.{Proc}
use Rattle.targets.specs.Among.{Joined}
use Rattle.nodes.specs.Shapes.{at}
use Rattle.nodes.specs.Looks.{look}
use Rattle.nodes.proofs.Looking.{at-grown, part-within}
use Rattle.nodes.proofs.HiddenSteps.{seq-ends, seq-stays}
use Rattle.nodes.proofs.table.Table.put_seq.Goals as goal

pub add-requires-clause-number : goal.add-requires-clause-number
add-requires-clause-number g c = part-within c.args.self.now c.put_each.new.self c.put_each.ensures.grown c.args.q c.requires.second

pub returns-in_ok-add-clause-cut : goal.returns-in_ok-add-clause-cut
returns-in_ok-add-clause-cut g c =
    let t = c.args.self.now in
    let u = c.put_each.new.self in
    let most = c.args.most in
    let middle = look u.processes c.put_each.new.into.items in
    let found = look u.processes c.add.new.into.items in
    let Q = at t.processes c.args.q in
    λ B d.
    seq-ends B most (look t.processes c.args.into.now.items) found (ap (look t.processes) c.requires.empty) (at t.processes c.args.p) Q (look t.processes c.args.parts.now) middle (sym c.facts-ends.ensures.ticks_is ∙ c.if-ends.true) d c.in_ok-put_each.ensures.joined
    (subst (λ (P : Proc). Joined most middle (P ∷ []) found) (at-grown t u c.put_each.ensures.grown c.args.q c.requires.second) c.in_ok-add.ensures.joined)

pub returns-else-ends-clause-cut : goal.returns-else-ends-clause-cut
returns-else-ends-clause-cut g c =
    let t = c.args.self.now in
    let u = c.put_each.new.self in
    λ B d.
    seq-stays B c.args.most (look t.processes c.args.into.now.items) (look u.processes c.put_each.new.into.items) (ap (look t.processes) c.requires.empty) (at t.processes c.args.p) (at t.processes c.args.q) (look t.processes c.args.parts.now) (sym c.facts-ends.ensures.ticks_is ∙ c.if-ends.false) d c.in_ok-put_each.ensures.joined
