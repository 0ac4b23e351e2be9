use Rattle.std.proofs.Common.{◌≡◌, ℕ, List, true, false, ap, sym, subst, ◌∙◌}
use Rattle.alphabet.specs.EventSets.{has}
use Rattle.term.specs.Proc.{hide}
use Rattle.term.specs.Steps.{Act}
use Rattle.targets.specs.Cuts.{CutOf}
use Rattle.nodes.specs.Shapes.{set_at}
use Rattle.nodes.specs.Looks.{look}
use Rattle.nodes.proofs.Acting.{hidden-acts, shown-acts}
use Rattle.nodes.proofs.table.Table.put_hide.Goals as goal

pub returns-then-contains-clause-cut : goal.returns-then-contains-clause-cut
returns-then-contains-clause-cut g c =
    let t = c.args.self.now in
    let A = set_at t.parameters c.args.set in
    let y : has A c.args.event ≡ true = ap (λ (S : ℕ). has S c.args.event) (sym c.set.ensures) ∙ sym c.contains.ensures ∙ c.if-contains.true in
    λ P d.
    subst (λ (l : List ℕ). CutOf (Act (hide A P) c.args.event) c.args.most (look t.processes l)) (sym c.requires.empty) (hidden-acts c.args.event c.args.most A P y)

pub returns-clause-cut : goal.returns-clause-cut
returns-clause-cut g c =
    let t = c.args.self.now in
    let A = set_at t.parameters c.args.set in
    let n : has A c.args.event ≡ false = ap (λ (S : ℕ). has S c.args.event) (sym c.set.ensures) ∙ sym c.contains.ensures ∙ c.if-contains.false in
    λ P d.
    shown-acts c.args.event c.args.most (look t.processes c.args.into.now.items) (look c.put_each.new.self.processes c.put_each.new.into.items) (ap (look t.processes) c.requires.empty) A P (look t.processes c.args.parts.now) n d c.in_ok-put_each.ensures.joined
