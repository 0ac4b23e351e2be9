use Rattle.std.proofs.Common.{OnOk, sym, subst}
use Rattle.term.specs.Proc.{bodies_of}
use Rattle.term.specs.Steps.{Hid}
use Rattle.nodes.specs.Shapes.{at}
use Rattle.nodes.specs.Looks.{look, IsCutIn, OrEnd}
use Rattle.nodes.proofs.Acting.{on-both}
use Rattle.transitions.specs.Numbered.{Numbered, numbered, KeepsNumbers}
use Rattle.transitions.proofs.Keeping.{kept, sound-grown}
use Rattle.transitions.proofs.transitions.Transitions.put_end.Goals as goal

pub invariant_of-self : goal.invariant_of-self
invariant_of-self g c = sound-grown c.self.inside.table c.put_end.new.self c.self.inside.bodies.items c.self.inside.remembered c.self.inside.depths.items c.self.invariant c.put_end.ensures.grown

pub returns-clause-cut : goal.returns-clause-cut
returns-clause-cut g c =
    let t = c.self.inside.table in
    let u = c.put_end.new.self in
    let side = c.args.side in
    let B = bodies_of (look t.processes c.self.inside.bodies.items) in
    let cut : IsCutIn t (Hid B (at t.processes side)) c.args.most c.args.into.now.items =
    subst (λ (s : Numbered). IsCutIn s.table (Hid (bodies_of s.bodies) (at s.table.processes side)) c.args.most c.args.into.now.items) (sym c.self.view_is) c.requires.cut in
    subst (λ (s : Numbered). OnOk c.put_end.result (IsCutIn u (OrEnd (Hid (bodies_of s.bodies) (at s.table.processes side)) (at s.table.processes side)) c.args.most c.put_end.new.into.items)) c.self.view_is
    (on-both c.put_end.result _ _ _ c.put_end.ensures.here c.put_end.ensures.cut (λ b f. record { here = b; cut = f B cut.cut }))

pub returns-clause-kept : goal.returns-clause-kept
returns-clause-kept g c =
    subst (λ (s : Numbered). KeepsNumbers s (numbered c.put_end.new.self c.self.inside.bodies.items)) c.self.view_is
    (kept c.self.inside.table c.put_end.new.self c.self.inside.bodies.items c.self.invariant.here c.put_end.ensures.grown)
