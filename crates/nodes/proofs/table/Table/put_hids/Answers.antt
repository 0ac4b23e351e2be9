use Rattle.std.proofs.Common.{ℕ, OnOk, ap, sym, subst}
use Rattle.term.specs.Proc.{Proc}
use Rattle.term.specs.Steps.{Hid}
use Rattle.nodes.specs.declared.node.Node.{Node}
use Rattle.nodes.specs.Shapes.{at, shape, set_at, relation_at}
use Rattle.nodes.specs.Looks.{look, AreHidsOfParts, IsCutIn}
use Rattle.nodes.proofs.Acting.{on-both}
use Rattle.nodes.proofs.HiddenSteps.{ext-found, int-found, par-found, hide-found, ren-found, intr-found, name-found}
use Rattle.nodes.proofs.table.Table.put_hids.Goals as goal

pub returns-in-Ext-clause-cut : goal.returns-in-Ext-clause-cut
returns-in-Ext-clause-cut g c =
    let t = c.args.self.now in
    let u = c.put_two.new.self in
    subst (λ (x : Node). OnOk c.put_two.result ((B : ℕ → Proc) → AreHidsOfParts t B x c.args.most c.args.lefts.now c.args.rights.now → IsCutIn u (Hid B (shape t.parameters t.processes x)) c.args.most c.put_two.new.into.items)) (sym c.in-Ext.is)
    (on-both c.put_two.result _ _ _ c.put_two.ensures.here c.put_two.ensures.joined
    (λ b (m, j, i) B d. record { here = b; cut = ext-found B c.args.most (look t.processes c.args.into.now.items) (look u.processes c.put_two.new.into.items) (ap (look t.processes) c.requires.empty) (at t.processes c.in-Ext.p) (at t.processes c.in-Ext.q) (look t.processes c.args.lefts.now) (look t.processes c.args.rights.now) m d.0.cut d.1.cut j i }))

pub returns-in-Int-clause-cut : goal.returns-in-Int-clause-cut
returns-in-Int-clause-cut g c =
    let t = c.args.self.now in
    let u = c.args.self.now in
    subst (λ (x : Node). OnOk c.put_int.result ((B : ℕ → Proc) → AreHidsOfParts t B x c.args.most c.args.lefts.now c.args.rights.now → IsCutIn u (Hid B (shape t.parameters t.processes x)) c.args.most c.put_int.new.into.items)) (sym c.in-Int.is)
    (on-both c.put_int.result _ _ _ c.put_int.ensures.here c.put_int.ensures.cut
    (λ b d B n. record { here = b; cut = int-found B c.args.most (at t.processes c.in-Int.p) (at t.processes c.in-Int.q) (look t.processes c.put_int.new.into.items) d }))

pub returns-in-Seq-clause-cut : goal.returns-in-Seq-clause-cut
returns-in-Seq-clause-cut g c =
    let t = c.args.self.now in
    let u = c.put_seq.new.self in
    subst (λ (x : Node). OnOk c.put_seq.result ((B : ℕ → Proc) → AreHidsOfParts t B x c.args.most c.args.lefts.now c.args.rights.now → IsCutIn u (Hid B (shape t.parameters t.processes x)) c.args.most c.put_seq.new.into.items)) (sym c.in-Seq.is)
    (on-both c.put_seq.result _ _ _ c.put_seq.ensures.here c.put_seq.ensures.cut (λ b f B d. record { here = b; cut = f B d.cut }))

pub returns-in-Par-clause-cut : goal.returns-in-Par-clause-cut
returns-in-Par-clause-cut g c =
    let t = c.args.self.now in
    let u = c.put_two-in-Par.new.self in
    subst (λ (x : Node). OnOk c.put_two-in-Par.result ((B : ℕ → Proc) → AreHidsOfParts t B x c.args.most c.args.lefts.now c.args.rights.now → IsCutIn u (Hid B (shape t.parameters t.processes x)) c.args.most c.put_two-in-Par.new.into.items)) (sym c.in-Par.is)
    (on-both c.put_two-in-Par.result _ _ _ c.put_two-in-Par.ensures.here c.put_two-in-Par.ensures.joined
    (λ b (m, j, i) B d. record { here = b; cut = par-found B c.args.most (look t.processes c.args.into.now.items) (look u.processes c.put_two-in-Par.new.into.items) (ap (look t.processes) c.requires.empty) (set_at t.parameters c.in-Par.set) (at t.processes c.in-Par.p) (at t.processes c.in-Par.q) (look t.processes c.args.lefts.now) (look t.processes c.args.rights.now) m d.0.cut d.1.cut j i }))

pub returns-in-Hide-clause-cut : goal.returns-in-Hide-clause-cut
returns-in-Hide-clause-cut g c =
    let t = c.args.self.now in
    let u = c.put_each.new.self in
    subst (λ (x : Node). OnOk c.put_each.result ((B : ℕ → Proc) → AreHidsOfParts t B x c.args.most c.args.lefts.now c.args.rights.now → IsCutIn u (Hid B (shape t.parameters t.processes x)) c.args.most c.put_each.new.into.items)) (sym c.in-Hide.is)
    (on-both c.put_each.result _ _ _ c.put_each.ensures.here c.put_each.ensures.joined
    (λ b j B d. record { here = b; cut = hide-found B c.args.most (look t.processes c.args.into.now.items) (look u.processes c.put_each.new.into.items) (ap (look t.processes) c.requires.empty) (set_at t.parameters c.in-Hide.set) (at t.processes c.in-Hide.field-1) (look t.processes c.args.lefts.now) d.cut j }))

pub returns-in-Ren-clause-cut : goal.returns-in-Ren-clause-cut
returns-in-Ren-clause-cut g c =
    let t = c.args.self.now in
    let u = c.put_each-in-Ren.new.self in
    subst (λ (x : Node). OnOk c.put_each-in-Ren.result ((B : ℕ → Proc) → AreHidsOfParts t B x c.args.most c.args.lefts.now c.args.rights.now → IsCutIn u (Hid B (shape t.parameters t.processes x)) c.args.most c.put_each-in-Ren.new.into.items)) (sym c.in-Ren.is)
    (on-both c.put_each-in-Ren.result _ _ _ c.put_each-in-Ren.ensures.here c.put_each-in-Ren.ensures.joined
    (λ b j B d. record { here = b; cut = ren-found B c.args.most (look t.processes c.args.into.now.items) (look u.processes c.put_each-in-Ren.new.into.items) (ap (look t.processes) c.requires.empty) (relation_at t.parameters c.in-Ren.relation) (at t.processes c.in-Ren.field-1) (look t.processes c.args.lefts.now) d.cut j }))

pub returns-in-Intr-clause-cut : goal.returns-in-Intr-clause-cut
returns-in-Intr-clause-cut g c =
    let t = c.args.self.now in
    let u = c.put_two-in-Intr.new.self in
    subst (λ (x : Node). OnOk c.put_two-in-Intr.result ((B : ℕ → Proc) → AreHidsOfParts t B x c.args.most c.args.lefts.now c.args.rights.now → IsCutIn u (Hid B (shape t.parameters t.processes x)) c.args.most c.put_two-in-Intr.new.into.items)) (sym c.in-Intr.is)
    (on-both c.put_two-in-Intr.result _ _ _ c.put_two-in-Intr.ensures.here c.put_two-in-Intr.ensures.joined
    (λ b (m, j, i) B d. record { here = b; cut = intr-found B c.args.most (look t.processes c.args.into.now.items) (look u.processes c.put_two-in-Intr.new.into.items) (ap (look t.processes) c.requires.empty) (at t.processes c.in-Intr.p) (at t.processes c.in-Intr.q) (look t.processes c.args.lefts.now) (look t.processes c.args.rights.now) m d.0.cut d.1.cut j i }))

pub returns-in-Name-clause-cut : goal.returns-in-Name-clause-cut
returns-in-Name-clause-cut g c =
    let t = c.args.self.now in
    let u = c.args.self.now in
    subst (λ (x : Node). OnOk c.join.result ((B : ℕ → Proc) → AreHidsOfParts t B x c.args.most c.args.lefts.now c.args.rights.now → IsCutIn u (Hid B (shape t.parameters t.processes x)) c.args.most c.join.new.into.items)) (sym c.in-Name.is)
    (on-both c.join.result _ _ _ c.join.ensures.here c.join.ensures.joined
    (λ b j B d. record { here = b; cut = name-found B c.args.most (look t.processes c.args.into.now.items) (look t.processes c.join.new.into.items) (ap (look t.processes) c.requires.empty) c.in-Name.field-0 (look t.processes c.args.lefts.now) d.cut j }))
