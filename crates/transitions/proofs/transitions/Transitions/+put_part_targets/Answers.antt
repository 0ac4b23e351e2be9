use Rattle.std.proofs.Common.{◌≡◌, ◌↔◌, ℕ, OnOk, List, length, take, sym, ap, ◌∙◌, subst}
use Rattle.std.proofs.lemmas.List.{take_more}
use Rattle.alphabet.specs.EventSets.{Set}
use Rattle.alphabet.specs.declared.events.Event.TheVariants.{Tick as tick}
use Rattle.term.specs.Proc.{Proc, bodies_of}
use Rattle.term.specs.Steps.{Act, Hid}
use Rattle.targets.specs.declared.labels.Label.{Label}
use Rattle.targets.specs.declared.labels.Label.TheVariants as label
use Rattle.targets.specs.Labels.{Step}
use Rattle.targets.specs.Among.{ActsIn}
use Rattle.nodes.specs.declared.node.Node.{Node}
use Rattle.nodes.specs.Shapes.{at, set_at, shape}
use Rattle.nodes.specs.Looks.{ActsBy, AllBelow, AreHidsOfParts, IsCutIn, OrEnd}
use Rattle.nodes.proofs.Acting.{on-ok, on-both}
use Rattle.nodes.proofs.Looking.{below-grown, set-within, set-grown}
use Rattle.transitions.specs.Numbered.{AreCutTargets}
use Rattle.transitions.proofs.Keeping.{at-kept, within-kept, node-kept, shape-kept, cut-kept, targets-kept, kept-on}
use Rattle.transitions.proofs.Asking.{none-in, always, by-more, both-in, cut-in-to}
use Rattle.transitions.proofs.transitions.Transitions.+put_part_targets.Goals as goal

pub put_part_targets-returns-then-not-may_step-clause-targets : goal.put_part_targets-returns-then-not-may_step-clause-targets
put_part_targets-returns-then-not-may_step-clause-targets g t c =
    let s = c.args.self.now in
    none-in s.table (Step (bodies_of s.bodies) (at s.table.processes c.args.number) c.args.label) c.args.most c.args.into.now.items c.requires.empty (c.may_step.ensures c.if-not-may_step.true)

pub find-returns-in-Event-Tick-clause-targets : goal.find-returns-in-Event-Tick-clause-targets
find-returns-in-Event-Tick-clause-targets g t c =
    let first : c.in-Event-Tick.field-0 ≡ tick = rw c.in-Event-Tick.is at c.in-Event-Tick.field-0-is in
    let is : c.args.label ≡ label.Event tick = c.in-Event-Tick.is ∙ ap label.Event first in
    on-ok c.find_end.result _ _ c.find_end.ensures.targets
    (λ f. subst (λ (l : Label). AreCutTargets c.find_end.new.self c.args.number l c.args.most c.find_end.new.into.items) (sym is) (f c.args.most))

pub find_acts-put_acts-requires-clause-within : goal.find_acts-put_acts-requires-clause-within
find_acts-put_acts-requires-clause-within g t c = node-kept c.args.self.now c.act_parts.new.self c.act_parts.ensures.kept c.args.number c.node-node.result c.requires.number c.node-node.ensures.within

pub find_acts-returns-clause-targets : goal.find_acts-returns-clause-targets
find_acts-returns-clause-targets g t c =
    let s = c.args.self.now in
    let m = c.act_parts.new.self in
    let r = c.put_acts.new.self in
    let n = c.args.number in
    let k = c.act_parts.ensures.kept in
    let e : at r.table.processes n ≡ shape m.table.parameters m.table.processes c.node-node.result =
    at-kept s r (kept-on s m r k c.put_acts.ensures.kept) n c.requires.number ∙ c.node-node.ensures.shape ∙ sym (shape-kept s m k n c.node-node.result c.requires.number c.node-node.ensures.within) in
    subst (λ (P : Proc). OnOk c.put_acts.result (IsCutIn r.table (Act P c.args.event) c.args.most c.put_acts.new.into.items)) (sym e) c.put_acts.ensures.cut

pub find_hidden-put_hids-requires-clause-within : goal.find_hidden-put_hids-requires-clause-within
find_hidden-put_hids-requires-clause-within g t c = node-kept c.args.self.now c.hid_parts.new.self c.hid_parts.ensures.kept c.args.number c.node-node.result c.requires.number c.node-node.ensures.within

pub find_hidden-returns-clause-targets : goal.find_hidden-returns-clause-targets
find_hidden-returns-clause-targets g t c =
    let s = c.args.self.now in
    let m = c.hid_parts.new.self in
    let r = c.put_hids.new.self in
    let n = c.args.number in
    let k = c.hid_parts.ensures.kept in
    let e : at r.table.processes n ≡ shape m.table.parameters m.table.processes c.node-node.result =
    at-kept s r (kept-on s m r k c.put_hids.ensures.kept) n c.requires.number ∙ c.node-node.ensures.shape ∙ sym (shape-kept s m k n c.node-node.result c.requires.number c.node-node.ensures.within) in
    subst (λ (B : List Proc). OnOk c.put_hids.result (IsCutIn r.table (Hid (bodies_of B) (at r.table.processes n)) c.args.most c.put_hids.new.into.items)) (sym c.put_hids.ensures.kept.bodies)
    (subst (λ (P : Proc). OnOk c.put_hids.result (IsCutIn r.table (Hid (bodies_of m.bodies) P) c.args.most c.put_hids.new.into.items)) (sym e) c.put_hids.ensures.cut)

pub hid_parts-returns-in-Name-clause-lefts : goal.hid_parts-returns-in-Name-clause-lefts
hid_parts-returns-in-Name-clause-lefts g t c = on-ok c.put_body.result _ _ c.put_body.ensures.cut (λ f. (f c.args.most).here)

pub hid_parts-returns-in-Name-clause-parts : goal.hid_parts-returns-in-Name-clause-parts
hid_parts-returns-in-Name-clause-parts g t c =
    let r = c.put_body.new.self in
    subst (λ (x : Node). OnOk c.put_body.result (AreHidsOfParts r.table (bodies_of r.bodies) x c.args.most c.put_body.new.into.items c.args.rights.now.items)) (sym c.in-Name.is)
    (on-ok c.put_body.result _ _ c.put_body.ensures.cut (λ f. f c.args.most))

pub put_both-returns-clause-lefts : goal.put_both-returns-clause-lefts
put_both-returns-clause-lefts g t c =
    let s = c.args.self.now in
    let m = c.put_part_targets.new.self in
    let r = c.put_part_targets-2.new.self in
    always c.put_part_targets-2.result (AreCutTargets r c.args.p c.args.label c.args.most c.put_part_targets.new.into.items)
    (targets-kept m r c.put_part_targets-2.ensures.kept c.args.p c.args.label c.args.most c.put_part_targets.new.into.items (within-kept s m c.put_part_targets.ensures.kept c.args.p c.requires.left) c.in_ok-put_part_targets.ensures.targets)

pub put_sides-returns-clause-lefts : goal.put_sides-returns-clause-lefts
put_sides-returns-clause-lefts g t c =
    let s = c.args.self.now in
    let m = c.put_side.new.self in
    let r = c.put_side-2.new.self in
    let P = at r.table.processes c.args.p in
    always c.put_side-2.result (IsCutIn r.table (OrEnd (Hid (bodies_of r.bodies) P) P) c.args.most c.put_side.new.into.items)
    (cut-kept m r c.put_side-2.ensures.kept (λ B Q. OrEnd (Hid (bodies_of B) Q) Q) c.args.p c.args.most c.put_side.new.into.items (within-kept s m c.put_side.ensures.kept c.args.p c.requires.left) c.in_ok-put_side.ensures.cut)

pub put_each-loop-event-preserved : goal.put_each-loop-event-preserved
put_each-loop-event-preserved g t c =
    let s = c.args.self.now in
    let l = c.loop-event.self in
    let u = c.join_acts.new.self in
    let es = c.args.events.now in
    let i = c.loop-event.event-index in
    record {
      kept = kept-on s l u c.loop-event.invariant.kept c.join_acts.ensures.kept;
      cut = subst (λ (as' : List ℕ). IsCutIn u.table (ActsBy as' (at u.table.processes c.args.p)) c.args.most c.join_acts.new.into.items) (sym (take_more es i 0 c.loop-event-test.true))
          (c.in_ok-join_acts.ensures.cut (take i es) c.loop-event.invariant.cut);
    }

pub join_acts-join-requires-clause-here : goal.join_acts-join-requires-clause-here
join_acts-join-requires-clause-here g t c =
    below-grown c.args.self.now.table c.put_part_targets.new.self.table c.put_part_targets.ensures.kept.table c.args.into.now.items c.requires.here

pub join_acts-returns-clause-cut : goal.join_acts-returns-clause-cut
join_acts-returns-clause-cut g t c =
    let s = c.args.self.now in
    let u = c.put_part_targets.new.self in
    let p = c.args.p in
    let a = c.args.event in
    let k = c.put_part_targets.ensures.kept in
    let found = subst (λ (ns : List ℕ). IsCutIn u.table (Act (at u.table.processes p) a) c.args.most ns) (sym c.deref.ensures.value) c.in_ok-put_part_targets.ensures.targets in
    on-both c.join.result _ _ _ c.join.ensures.here c.join.ensures.joined
    (λ b j (es : List ℕ) old. by-more u.table es a c.args.most (at u.table.processes p) c.args.into.now.items c.deref.result.now c.join.new.into.items
    (cut-kept s u k (λ B P. ActsBy es P) p c.args.most c.args.into.now.items c.requires.part old) found b j)

pub put_hidden-join-requires-clause-numbers : goal.put_hidden-join-requires-clause-numbers
put_hidden-join-requires-clause-numbers g t c =
    let u = c.put_part_targets.new.self in
    subst (λ (ns : List ℕ). AllBelow (length u.table.processes) ns) (sym c.deref.ensures.value)
    (below-grown c.put_hidden_acts.new.self.table u.table c.put_part_targets.ensures.kept.table c.put_hidden_acts.new.into.items c.in_ok-put_hidden_acts.ensures.cut.here)

pub put_hidden-returns-clause-cut : goal.put_hidden-returns-clause-cut
put_hidden-returns-clause-cut g t c =
    let s = c.args.self.now in
    let m = c.put_hidden_acts.new.self in
    let u = c.put_part_targets.new.self in
    let p = c.args.p in
    let A = c.args.set in
    let k = c.put_hidden_acts.ensures.kept in
    let l = c.put_part_targets.ensures.kept in
    let ns = c.put_hidden_acts.new.into.items in
    let there = cut-kept m u l (λ B P. ActsIn (set_at m.table.parameters A) P) p c.args.most ns (within-kept s m k p c.requires.part) c.in_ok-put_hidden_acts.ensures.cut in
    let cut : IsCutIn u.table (ActsIn (set_at u.table.parameters A) (at u.table.processes p)) c.args.most c.deref.result.now =
    subst (λ (ls : List ℕ). IsCutIn u.table (ActsIn (set_at u.table.parameters A) (at u.table.processes p)) c.args.most ls) (sym c.deref.ensures.value)
    (subst (λ (T : Set). IsCutIn u.table (ActsIn T (at u.table.processes p)) c.args.most ns) (sym (set-grown m.table u.table l.table A (set-within s.table m.table k.table A c.requires.set))) there) in
    on-both c.join.result _ _ _ c.join.ensures.here c.join.ensures.joined
    (λ b j. both-in u.table (Hid (bodies_of u.bodies) (at u.table.processes p)) (ActsIn (set_at u.table.parameters A) (at u.table.processes p)) c.args.most c.put_part_targets.new.into.items c.deref.result.now c.join.new.into.items c.in_ok-put_part_targets.ensures.targets cut b j)

pub put_hidden_acts-returns-clause-cut : goal.put_hidden_acts-returns-clause-cut
put_hidden_acts-returns-clause-cut g t c =
    let s = c.args.self.now in
    let m = c.put_each.new.self in
    let p = c.args.p in
    let A = c.args.set in
    let k = c.put_each.ensures.kept in
    let P = at m.table.processes p in
    let S = set_at m.table.parameters A in
    let ns = c.put_each.new.into.items in
    let same : (Q : Proc) → ActsBy c.deref.result.now P Q ↔ ActsIn S P Q =
    subst (λ (es : List ℕ). (Q : Proc) → ActsBy es P Q ↔ ActsIn S P Q) (sym c.deref.ensures.value)
    (subst (λ (T : Set). (Q : Proc) → ActsBy c.in_ok-events.events.items P Q ↔ ActsIn T P Q) (sym (set-grown s.table m.table k.table A c.requires.set))
    (subst (λ (R : Proc). (Q : Proc) → ActsBy c.in_ok-events.events.items R Q ↔ ActsIn (set_at s.table.parameters A) R Q) (sym (at-kept s m k p c.requires.part)) c.in_ok-events.ensures)) in
    on-ok c.put_each.result _ _ c.put_each.ensures.cut (λ cut. cut-in-to m.table (ActsBy c.deref.result.now P) (ActsIn S P) c.args.most ns same cut)
