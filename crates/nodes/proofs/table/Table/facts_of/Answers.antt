use Rattle.std.proofs.Common.{ℕ, sym, subst}
use Rattle.term.specs.Traces.{Pairs}
use Rattle.term.specs.Proc.{par, hide, ren}
use Rattle.nodes.specs.declared.node.Node.{Node}
use Rattle.nodes.specs.Shapes.{at, shape}
use Rattle.nodes.specs.Known.{IsKnown}
use Rattle.nodes.proofs.table.Table.facts_of.Goals as goal

pub returns-in-Par : goal.returns-in-Par
returns-in-Par g c =
    let t = c.args.self.now in
    subst (λ (x : Node). IsKnown c.of_par.result (shape t.parameters t.processes x)) (sym c.in-Par.is)
    (subst (λ (s : ℕ). IsKnown c.of_par.result (par s (at t.processes c.in-Par.p) (at t.processes c.in-Par.q))) c.set.ensures
    (c.of_par.ensures (at t.processes c.in-Par.p) (at t.processes c.in-Par.q) c.facts-in-Par.ensures c.facts-in-Par-2.ensures))

pub returns-in-Hide : goal.returns-in-Hide
returns-in-Hide g c =
    let t = c.args.self.now in
    subst (λ (x : Node). IsKnown c.of_hide.result (shape t.parameters t.processes x)) (sym c.in-Hide.is)
    (subst (λ (s : ℕ). IsKnown c.of_hide.result (hide s (at t.processes c.in-Hide.p))) c.set-in-Hide.ensures
    (c.of_hide.ensures (at t.processes c.in-Hide.p) c.facts-in-Hide.ensures))

pub returns-in-Ren : goal.returns-in-Ren
returns-in-Ren g c =
    let t = c.args.self.now in
    subst (λ (x : Node). IsKnown c.of_ren.result (shape t.parameters t.processes x)) (sym c.in-Ren.is)
    (subst (λ (r : Pairs). IsKnown c.of_ren.result (ren r (at t.processes c.in-Ren.p))) c.pairs.ensures
    (c.of_ren.ensures (at t.processes c.in-Ren.p) c.facts-in-Ren.ensures))

pub returns-in-Name : goal.returns-in-Name
returns-in-Name g c =
    let t = c.args.self.now in
    subst (λ (x : Node). IsKnown c.of_name.result (shape t.parameters t.processes x)) (sym c.in-Name.is) (c.of_name.ensures c.in-Name.field-0)

pub returns-in-Ext : goal.returns-in-Ext
returns-in-Ext g c =
    let t = c.args.self.now in
    subst (λ (x : Node). IsKnown c.of_ext.result (shape t.parameters t.processes x)) (sym c.in-Ext.is)
    (c.of_ext.ensures (at t.processes c.in-Ext.p) (at t.processes c.in-Ext.q) c.facts-in-Ext.ensures c.facts-in-Ext-2.ensures)

pub returns-in-Int : goal.returns-in-Int
returns-in-Int g c =
    let t = c.args.self.now in
    subst (λ (x : Node). IsKnown c.of_int.result (shape t.parameters t.processes x)) (sym c.in-Int.is)
    (c.of_int.ensures (at t.processes c.in-Int.p) (at t.processes c.in-Int.q) c.facts-in-Int.ensures c.facts-in-Int-2.ensures)

pub returns-in-Seq : goal.returns-in-Seq
returns-in-Seq g c =
    let t = c.args.self.now in
    subst (λ (x : Node). IsKnown c.of_seq.result (shape t.parameters t.processes x)) (sym c.in-Seq.is)
    (c.of_seq.ensures (at t.processes c.in-Seq.p) (at t.processes c.in-Seq.q) c.facts-in-Seq.ensures c.facts-in-Seq-2.ensures)

pub returns-in-Intr : goal.returns-in-Intr
returns-in-Intr g c =
    let t = c.args.self.now in
    subst (λ (x : Node). IsKnown c.of_intr.result (shape t.parameters t.processes x)) (sym c.in-Intr.is)
    (c.of_intr.ensures (at t.processes c.in-Intr.p) (at t.processes c.in-Intr.q) c.facts-in-Intr.ensures c.facts-in-Intr-2.ensures)
