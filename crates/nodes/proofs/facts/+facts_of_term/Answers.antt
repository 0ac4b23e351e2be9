use Rattle.term.specs.Proc.{proc}
use Rattle.nodes.specs.Known.{IsKnown}
use Rattle.nodes.proofs.facts.+facts_of_term.Goals as goal

pub returns-in-Ext : goal.returns-in-Ext
returns-in-Ext g t c =
    let p : IsKnown c.facts_of_term-in-Ext.result (proc c.in-Ext.p.value) = rw (← c.deref-in-Ext.ensures) c.facts_of_term-in-Ext.ensures in
    let q : IsKnown c.facts_of_term-in-Ext-2.result (proc c.in-Ext.q.value) = rw (← c.deref-in-Ext-2.ensures) c.facts_of_term-in-Ext-2.ensures in
    rw c.in-Ext.is (c.of_ext.ensures (proc c.in-Ext.p.value) (proc c.in-Ext.q.value) p q)

pub returns-in-Int : goal.returns-in-Int
returns-in-Int g t c =
    let p : IsKnown c.facts_of_term-in-Int.result (proc c.in-Int.p.value) = rw (← c.deref-in-Int.ensures) c.facts_of_term-in-Int.ensures in
    let q : IsKnown c.facts_of_term-in-Int-2.result (proc c.in-Int.q.value) = rw (← c.deref-in-Int-2.ensures) c.facts_of_term-in-Int-2.ensures in
    rw c.in-Int.is (c.of_int.ensures (proc c.in-Int.p.value) (proc c.in-Int.q.value) p q)

pub returns-in-Seq : goal.returns-in-Seq
returns-in-Seq g t c =
    let p : IsKnown c.facts_of_term-in-Seq.result (proc c.in-Seq.p.value) = rw (← c.deref-in-Seq.ensures) c.facts_of_term-in-Seq.ensures in
    let q : IsKnown c.facts_of_term-in-Seq-2.result (proc c.in-Seq.q.value) = rw (← c.deref-in-Seq-2.ensures) c.facts_of_term-in-Seq-2.ensures in
    rw c.in-Seq.is (c.of_seq.ensures (proc c.in-Seq.p.value) (proc c.in-Seq.q.value) p q)

pub returns-in-Par : goal.returns-in-Par
returns-in-Par g t c =
    let p : IsKnown c.facts_of_term-in-Par.result (proc c.in-Par.p.value) = rw (← c.deref-in-Par.ensures) c.facts_of_term-in-Par.ensures in
    let q : IsKnown c.facts_of_term-in-Par-2.result (proc c.in-Par.q.value) = rw (← c.deref-in-Par-2.ensures) c.facts_of_term-in-Par-2.ensures in
    rw c.in-Par.is (c.of_par.ensures (proc c.in-Par.p.value) (proc c.in-Par.q.value) p q)

pub returns-in-Intr : goal.returns-in-Intr
returns-in-Intr g t c =
    let p : IsKnown c.facts_of_term-in-Intr.result (proc c.in-Intr.p.value) = rw (← c.deref-in-Intr.ensures) c.facts_of_term-in-Intr.ensures in
    let q : IsKnown c.facts_of_term-in-Intr-2.result (proc c.in-Intr.q.value) = rw (← c.deref-in-Intr-2.ensures) c.facts_of_term-in-Intr-2.ensures in
    rw c.in-Intr.is (c.of_intr.ensures (proc c.in-Intr.p.value) (proc c.in-Intr.q.value) p q)

pub returns-in-Name : goal.returns-in-Name
returns-in-Name g t c = rw c.in-Name.is (c.of_name.ensures c.in-Name.field-0)
