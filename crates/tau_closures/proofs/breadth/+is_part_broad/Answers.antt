use Rattle.std.proofs.Common.{ℕ}
use Rattle.alphabet.specs.declared.events.Event.TheVariants.{Of as ev}
use Rattle.term.specs.Proc.{Proc, bodies_of, ext, seq, par, hide, ren, intr}
use Rattle.targets.specs.declared.labels.Label.TheVariants as label
use Rattle.nodes.specs.Shapes.{at, set_at, relation_at}
use Rattle.transitions.specs.Numbered.{Numbered}
use Rattle.tau_closures.proofs.Broadening.{ext-broad, intr-broad, par-broad, seq-broad, hide-broad, ext-hid-broad, intr-hid-broad, par-hid-broad, seq-hid-broad, hide-hid-broad, ren-hid-broad, broad-arm, arm-offers, if-broad}
use Rattle.tau_closures.proofs.breadth.+is_part_broad.Goals as goal

pub has_broad_act-returns-in-Ext-clause-broad : goal.has_broad_act-returns-in-Ext-clause-broad
has_broad_act-returns-in-Ext-clause-broad g t c =
    let s = c.args.states.now in
    let P : Numbered → Proc = λ r. ext (at r.table.processes c.in-Ext.p) (at r.table.processes c.in-Ext.q) in
    if-broad c.is_either_broad.result _ _ (λ m. broad-arm s c.all-2.result.now c.args.number (label.Event (ev c.args.event)) P c.all-2.ensures c.in-Ext.ensures.shape (ext-broad c.args.event (at s.all.table.processes c.in-Ext.p) (at s.all.table.processes c.in-Ext.q) m)) c.is_either_broad.ensures.broad

pub has_broad_act-returns-in-Par-clause-broad : goal.has_broad_act-returns-in-Par-clause-broad
has_broad_act-returns-in-Par-clause-broad g t c =
    let s = c.args.states.now in
    let P : Numbered → Proc = λ r. par (set_at r.table.parameters c.in-Par.field-0) (at r.table.processes c.in-Par.p) (at r.table.processes c.in-Par.q) in
    let o = arm-offers s.all c.all-2.result.now c.all.result.now c.args.number c.args.event c.facts.result.offers c.contains.result P c.all.ensures c.all-2.ensures (c.facts.ensures.offers_are c.args.event) c.contains.ensures c.if-not-contains.false c.in-Par.ensures.shape in
    if-broad c.is_either_broad-in-Par.result _ _ (λ m. broad-arm s c.all-2.result.now c.args.number (label.Event (ev c.args.event)) P c.all-2.ensures c.in-Par.ensures.shape (par-broad c.args.event (set_at s.all.table.parameters c.in-Par.field-0) (at s.all.table.processes c.in-Par.p) (at s.all.table.processes c.in-Par.q) o m)) c.is_either_broad-in-Par.ensures.broad

pub has_broad_act-returns-in-Intr-clause-broad : goal.has_broad_act-returns-in-Intr-clause-broad
has_broad_act-returns-in-Intr-clause-broad g t c =
    let s = c.args.states.now in
    let P : Numbered → Proc = λ r. intr (at r.table.processes c.in-Intr.p) (at r.table.processes c.in-Intr.q) in
    if-broad c.is_either_broad-in-Intr.result _ _ (λ m. broad-arm s c.all-2.result.now c.args.number (label.Event (ev c.args.event)) P c.all-2.ensures c.in-Intr.ensures.shape (intr-broad c.args.event (at s.all.table.processes c.in-Intr.p) (at s.all.table.processes c.in-Intr.q) m)) c.is_either_broad-in-Intr.ensures.broad

pub has_broad_act-returns-in-Seq-clause-broad : goal.has_broad_act-returns-in-Seq-clause-broad
has_broad_act-returns-in-Seq-clause-broad g t c =
    let s = c.args.states.now in
    let P : Numbered → Proc = λ r. seq (at r.table.processes c.in-Seq.p) (at r.table.processes c.in-Seq.field-1) in
    if-broad c.is_part_broad.result _ _ (λ m. broad-arm s c.all-2.result.now c.args.number (label.Event (ev c.args.event)) P c.all-2.ensures c.in-Seq.ensures.shape (seq-broad c.args.event (at s.all.table.processes c.in-Seq.p) (at s.all.table.processes c.in-Seq.field-1) m)) c.is_part_broad.ensures.broad

pub has_broad_act-returns-in-Hide-clause-broad : goal.has_broad_act-returns-in-Hide-clause-broad
has_broad_act-returns-in-Hide-clause-broad g t c =
    let s = c.args.states.now in
    let P : Numbered → Proc = λ r. hide (set_at r.table.parameters c.in-Hide.field-0) (at r.table.processes c.in-Hide.p) in
    let o = arm-offers s.all c.all-2.result.now c.all.result.now c.args.number c.args.event c.facts.result.offers c.contains.result P c.all.ensures c.all-2.ensures (c.facts.ensures.offers_are c.args.event) c.contains.ensures c.if-not-contains.false c.in-Hide.ensures.shape in
    if-broad c.is_part_broad-in-Hide.result _ _ (λ m. broad-arm s c.all-2.result.now c.args.number (label.Event (ev c.args.event)) P c.all-2.ensures c.in-Hide.ensures.shape (hide-broad c.args.event (set_at s.all.table.parameters c.in-Hide.field-0) (at s.all.table.processes c.in-Hide.p) o m)) c.is_part_broad-in-Hide.ensures.broad

pub has_broad_hid-returns-in-Ext-clause-broad : goal.has_broad_hid-returns-in-Ext-clause-broad
has_broad_hid-returns-in-Ext-clause-broad g t c =
    let s = c.args.states.now in
    let P : Numbered → Proc = λ r. ext (at r.table.processes c.in-Ext.p) (at r.table.processes c.in-Ext.q) in
    if-broad c.is_either_broad.result _ _ (λ m. broad-arm s c.all-2.result.now c.args.number label.Tau P c.all-2.ensures c.in-Ext.ensures.shape (ext-hid-broad (bodies_of s.all.bodies) (at s.all.table.processes c.in-Ext.p) (at s.all.table.processes c.in-Ext.q) m)) c.is_either_broad.ensures.broad

pub has_broad_hid-returns-in-Par-clause-broad : goal.has_broad_hid-returns-in-Par-clause-broad
has_broad_hid-returns-in-Par-clause-broad g t c =
    let s = c.args.states.now in
    let P : Numbered → Proc = λ r. par (set_at r.table.parameters c.in-Par.field-0) (at r.table.processes c.in-Par.p) (at r.table.processes c.in-Par.q) in
    if-broad c.is_either_broad-in-Par.result _ _ (λ m. broad-arm s c.all-2.result.now c.args.number label.Tau P c.all-2.ensures c.in-Par.ensures.shape (par-hid-broad (bodies_of s.all.bodies) (set_at s.all.table.parameters c.in-Par.field-0) (at s.all.table.processes c.in-Par.p) (at s.all.table.processes c.in-Par.q) m)) c.is_either_broad-in-Par.ensures.broad

pub has_broad_hid-returns-in-Intr-clause-broad : goal.has_broad_hid-returns-in-Intr-clause-broad
has_broad_hid-returns-in-Intr-clause-broad g t c =
    let s = c.args.states.now in
    let P : Numbered → Proc = λ r. intr (at r.table.processes c.in-Intr.p) (at r.table.processes c.in-Intr.q) in
    if-broad c.is_either_broad-in-Intr.result _ _ (λ m. broad-arm s c.all-2.result.now c.args.number label.Tau P c.all-2.ensures c.in-Intr.ensures.shape (intr-hid-broad (bodies_of s.all.bodies) (at s.all.table.processes c.in-Intr.p) (at s.all.table.processes c.in-Intr.q) m)) c.is_either_broad-in-Intr.ensures.broad

pub has_broad_hid-returns-in-Seq-clause-broad : goal.has_broad_hid-returns-in-Seq-clause-broad
has_broad_hid-returns-in-Seq-clause-broad g t c =
    let s = c.args.states.now in
    let P : Numbered → Proc = λ r. seq (at r.table.processes c.in-Seq.p) (at r.table.processes c.in-Seq.field-1) in
    if-broad c.is_part_broad.result _ _ (λ m. broad-arm s c.all-2.result.now c.args.number label.Tau P c.all-2.ensures c.in-Seq.ensures.shape (seq-hid-broad (bodies_of s.all.bodies) (at s.all.table.processes c.in-Seq.p) (at s.all.table.processes c.in-Seq.field-1) m)) c.is_part_broad.ensures.broad

pub has_broad_hid-returns-in-Hide-clause-broad : goal.has_broad_hid-returns-in-Hide-clause-broad
has_broad_hid-returns-in-Hide-clause-broad g t c =
    let s = c.args.states.now in
    let P : Numbered → Proc = λ r. hide (set_at r.table.parameters c.in-Hide.field-0) (at r.table.processes c.in-Hide.p) in
    if-broad c.is_part_broad-in-Hide.result _ _ (λ m. broad-arm s c.all-2.result.now c.args.number label.Tau P c.all-2.ensures c.in-Hide.ensures.shape (hide-hid-broad (bodies_of s.all.bodies) (set_at s.all.table.parameters c.in-Hide.field-0) (at s.all.table.processes c.in-Hide.p) m)) c.is_part_broad-in-Hide.ensures.broad

pub has_broad_hid-returns-in-Ren-clause-broad : goal.has_broad_hid-returns-in-Ren-clause-broad
has_broad_hid-returns-in-Ren-clause-broad g t c =
    let s = c.args.states.now in
    let P : Numbered → Proc = λ r. ren (relation_at r.table.parameters c.in-Ren.field-0) (at r.table.processes c.in-Ren.p) in
    if-broad c.is_part_broad-in-Ren.result _ _ (λ m. broad-arm s c.all-2.result.now c.args.number label.Tau P c.all-2.ensures c.in-Ren.ensures.shape (ren-hid-broad (bodies_of s.all.bodies) (relation_at s.all.table.parameters c.in-Ren.field-0) (at s.all.table.processes c.in-Ren.p) m)) c.is_part_broad-in-Ren.ensures.broad
