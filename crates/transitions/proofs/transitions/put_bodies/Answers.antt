use Rattle.std.proofs.Common.{◌<◌, ℕ, List, length, sym, ap, ◌∙◌, subst, arith}
use Rattle.term.specs.Proc.{proc}
use Rattle.nodes.specs.Looks.{look, AllBelow}
use Rattle.transitions.proofs.Remembering.{below-more-bodies, bodies-more}
use Rattle.transitions.proofs.transitions.put_bodies.Goals as goal

pub loop-place-preserved : goal.loop-place-preserved
loop-place-preserved g c =
    let t = c.loop-place.table in
    let u = c.number_of_term.new.self in
    let ns = c.loop-place.numbers.items in
    let n = c.in_ok-number.number in
    let i = c.loop-place.place in
    let ps = c.args.spec.now.bodies in
    let P = proc c.body.result.now in
    let inv = c.loop-place.invariant in
    let h : i < length ps = omega arith in
    record {
      here = subst (λ (l : List ℕ). AllBelow (length u.processes) l) (sym c.in_ok-push.ensures.items) (below-more-bodies t u ns n P c.number_of_term.ensures.grown inv.here c.in_ok-number.ensures.number);
      bodies = ap (look u.processes) c.in_ok-push.ensures.items ∙ bodies-more t u ns n i ps P c.number_of_term.ensures.grown inv.here inv.bodies h c.body.ensures.body c.in_ok-number.ensures.number;
    }
