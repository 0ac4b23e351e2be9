use Rattle.std.proofs.Common.{OnOk, length, refl, ap, sym, subst}
use Rattle.term.specs.Steps.{Act}
use Rattle.nodes.specs.declared.node.Node.{Node}
use Rattle.nodes.specs.Shapes.{at, shape, relation_at, IsWithin}
use Rattle.nodes.specs.Looks.{look, AreActsOfParts, IsCutIn}
use Rattle.nodes.proofs.Acting.{on-ok, on-both, single-found, seq-acts, ren-acts}
use Rattle.nodes.proofs.table.Table.put_acts.Goals as goal

pub returns-in-Prefix-clause-cut : goal.returns-in-Prefix-clause-cut
returns-in-Prefix-clause-cut g c =
    let t = c.args.self.now in
    let within = subst (λ (x : Node). IsWithin t.parameters (length t.processes) x) c.in-Prefix.is c.requires.within in
    subst (λ (x : Node). OnOk c.put_single.result (IsCutIn t (Act (shape t.parameters t.processes x) c.args.event) c.args.most c.put_single.new.into.items)) (sym c.in-Prefix.is)
    (on-ok c.put_single.result _ _ c.put_single.ensures (λ e. single-found t c.in-Prefix.first c.args.event c.args.most c.in-Prefix.p c.put_single.new.into.items within e))

pub returns-in-Ext-clause-cut : goal.returns-in-Ext-clause-cut
returns-in-Ext-clause-cut g c =
    let t = c.args.self.now in
    let parts = subst (λ (x : Node). AreActsOfParts t x c.args.event c.args.most c.args.lefts.now c.args.rights.now) c.in-Ext.is c.requires.parts in
    subst (λ (x : Node). OnOk c.put_ext.result (IsCutIn t (Act (shape t.parameters t.processes x) c.args.event) c.args.most c.put_ext.new.into.items)) (sym c.in-Ext.is)
    (on-both c.put_ext.result _ _ _ c.put_ext.ensures.here c.put_ext.ensures.cut
    (λ b f. record { here = b; cut = f (at t.processes c.in-Ext.field-0) (at t.processes c.in-Ext.field-1) c.args.event parts.0.cut parts.1.cut }))

pub returns-in-Seq-clause-cut : goal.returns-in-Seq-clause-cut
returns-in-Seq-clause-cut g c =
    let t = c.args.self.now in
    let u = c.put_each.new.self in
    let parts = subst (λ (x : Node). AreActsOfParts t x c.args.event c.args.most c.args.lefts.now c.args.rights.now) c.in-Seq.is c.requires.parts in
    subst (λ (x : Node). OnOk c.put_each.result (IsCutIn u (Act (shape t.parameters t.processes x) c.args.event) c.args.most c.put_each.new.into.items)) (sym c.in-Seq.is)
    (on-both c.put_each.result _ _ _ c.put_each.ensures.here c.put_each.ensures.joined
    (λ b j. record {
      here = b;
      cut = seq-acts c.args.event c.args.most (look t.processes c.args.into.now.items) (look u.processes c.put_each.new.into.items) (ap (look t.processes) c.requires.empty) (at t.processes c.in-Seq.field-0) (at t.processes c.in-Seq.q) (look t.processes c.args.lefts.now) parts.cut j;
    }))

pub returns-in-Hide-clause-cut : goal.returns-in-Hide-clause-cut
returns-in-Hide-clause-cut g c =
    let t = c.args.self.now in
    let u = c.put_hide.new.self in
    let parts = subst (λ (x : Node). AreActsOfParts t x c.args.event c.args.most c.args.lefts.now c.args.rights.now) c.in-Hide.is c.requires.parts in
    subst (λ (x : Node). OnOk c.put_hide.result (IsCutIn u (Act (shape t.parameters t.processes x) c.args.event) c.args.most c.put_hide.new.into.items)) (sym c.in-Hide.is)
    (on-both c.put_hide.result _ _ _ c.put_hide.ensures.here c.put_hide.ensures.cut (λ b f. record { here = b; cut = f (at t.processes c.in-Hide.field-1) parts.cut }))

pub returns-in-Ren-clause-cut : goal.returns-in-Ren-clause-cut
returns-in-Ren-clause-cut g c =
    let t = c.args.self.now in
    let u = c.put_each-in-Ren.new.self in
    let parts = subst (λ (x : Node). AreActsOfParts t x c.args.event c.args.most c.args.lefts.now c.args.rights.now) c.in-Ren.is c.requires.parts in
    subst (λ (x : Node). OnOk c.put_each-in-Ren.result (IsCutIn u (Act (shape t.parameters t.processes x) c.args.event) c.args.most c.put_each-in-Ren.new.into.items)) (sym c.in-Ren.is)
    (on-both c.put_each-in-Ren.result _ _ _ c.put_each-in-Ren.ensures.here c.put_each-in-Ren.ensures.joined
    (λ b j. record {
      here = b;
      cut = ren-acts c.args.event c.args.most (look t.processes c.args.into.now.items) (look u.processes c.put_each-in-Ren.new.into.items) (ap (look t.processes) c.requires.empty) (relation_at t.parameters c.in-Ren.relation) (at t.processes c.in-Ren.field-1) (look t.processes c.args.lefts.now) parts.cut j;
    }))

pub returns-in-Intr-clause-cut : goal.returns-in-Intr-clause-cut
returns-in-Intr-clause-cut g c =
    let t = c.args.self.now in
    let u = c.put_intr.new.self in
    let parts = subst (λ (x : Node). AreActsOfParts t x c.args.event c.args.most c.args.lefts.now c.args.rights.now) c.in-Intr.is c.requires.parts in
    subst (λ (x : Node). OnOk c.put_intr.result (IsCutIn u (Act (shape t.parameters t.processes x) c.args.event) c.args.most c.put_intr.new.into.items)) (sym c.in-Intr.is)
    (on-both c.put_intr.result _ _ _ c.put_intr.ensures.here c.put_intr.ensures.cut
    (λ b f. record { here = b; cut = f (at t.processes c.in-Intr.field-0) (at t.processes c.in-Intr.q) c.args.event refl parts.0.cut parts.1.cut }))
