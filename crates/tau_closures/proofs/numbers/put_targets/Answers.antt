use Rattle.std.proofs.Common.{ℕ, List, length, sym, subst}
use Rattle.term.specs.Limits.{most_states}
use Rattle.term.specs.Proc.{Proc, bodies_of}
use Rattle.targets.specs.Labels.{Step}
use Rattle.targets.specs.Cuts.{CutOf}
use Rattle.nodes.specs.Shapes.{at}
use Rattle.nodes.specs.Looks.{look, AllBelow}
use Rattle.nodes.proofs.Acting.{on-ok}
use Rattle.nodes.proofs.Looking.{below-grown, look-grown}
use Rattle.transitions.specs.Numbered.{Numbered}
use Rattle.tau_closures.specs.Closing.{HasPut}
use Rattle.transitions.proofs.Keeping.{at-kept}
use Rattle.tau_closures.proofs.numbers.put_targets.Goals as goal

pub put_all-requires-clause-numbers : goal.put_all-requires-clause-numbers
put_all-requires-clause-numbers g c =
    subst (λ (a : Numbered). AllBelow (length a.table.processes) c.deref.result.now) (sym c.all.ensures)
    (subst (λ (ns : List ℕ). AllBelow (length c.put_targets.new.self.all.table.processes) ns) (sym c.deref.ensures.value) c.in_ok-put_targets.ensures.targets.here)

pub put_all-requires-clause-here : goal.put_all-requires-clause-here
put_all-requires-clause-here g c =
    subst (λ (a : Numbered). AllBelow (length a.table.processes) c.args.into.now) (sym c.all.ensures)
    (below-grown c.args.states.now.all.table c.put_targets.new.self.all.table c.put_targets.ensures.kept.all.table c.args.into.now c.requires.here)

pub returns-clause-here : goal.returns-clause-here
returns-clause-here g c =
    on-ok c.put_all.result _ _ c.put_all.ensures.here
    (λ h. subst (λ (a : Numbered). AllBelow (length a.table.processes) c.put_all.new.into) c.all.ensures h)

pub returns-clause-put : goal.returns-clause-put
returns-clause-put g c =
    let s = c.args.states.now.all in
    let u = c.put_targets.new.self.all in
    let k = c.put_targets.ensures.kept.all in
    let n = c.args.number in
    let l = c.args.label in
    let found = look u.table.processes c.put_targets.new.into.items in
    let cut : CutOf (Step (bodies_of s.bodies) (at s.table.processes n) l) most_states found =
    subst (λ (P : Proc). CutOf (Step (bodies_of s.bodies) P l) most_states found) (at-kept s u k n c.requires.number)
    (subst (λ (B : List Proc). CutOf (Step (bodies_of B) (at u.table.processes n) l) most_states found) k.bodies c.in_ok-put_targets.ensures.targets.cut) in
    on-ok c.put_all.result _ _ c.put_all.ensures.put
    (λ q.
    let p = subst (λ (a : Numbered). HasPut (look a.table.processes c.deref.result.now) (look a.table.processes c.args.into.now) (look a.table.processes c.put_all.new.into)) c.all.ensures q in (
      found,
      cut,
      subst (λ (ns : List ℕ). HasPut (look u.table.processes ns) (look s.table.processes c.args.into.now) (look u.table.processes c.put_all.new.into)) c.deref.ensures.value
          (subst (λ (old : List Proc). HasPut (look u.table.processes c.deref.result.now) old (look u.table.processes c.put_all.new.into)) (look-grown s.table u.table k.table c.args.into.now c.requires.here) p),
    ))
