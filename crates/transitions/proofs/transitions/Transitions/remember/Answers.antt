use Rattle.std.proofs.Common.{◌<◌, length, sym, subst}
use Rattle.transitions.specs.Numbered.{Numbered, AreTargets}
use Rattle.transitions.proofs.Remembering.{cut-less, sound-more}
use Rattle.transitions.proofs.transitions.Transitions.remember.Goals as goal

pub invariant_of-self : goal.invariant_of-self
invariant_of-self g c =
    let n = c.args.number in
    let l = c.args.label in
    sound-more c.self.inside.table c.self.inside.bodies.items c.self.inside.depths.items c.self.inside.remembered c.put.new.self n l c.args.found.now
    (subst (λ (s : Numbered). n < length s.table.processes) (sym c.self.view_is) c.requires.number)
    (subst (λ (s : Numbered). AreTargets s n l c.args.found.now) (sym c.self.view_is) (cut-less c.args.self.now n l c.args.most c.args.found.now c.if-most-ge-MOST_STATES.true c.requires.targets))
    c.self.invariant c.put.ensures
