use Rattle.std.proofs.Common.{◌≡◌, ◌∷◌, [], ◌++◌, length, sym, ap, subst, ◌∙◌, append_assoc, arith}
use Rattle.std.specs.Vec.Iter.{into_iter_items}
use Rattle.connections.specs.Starting.{Each, IsJoined}
use Rattle.connections.proofs.Turns.{each_more}
use Rattle.connections.proofs.threads.join_all.Goals as goal

pub loop-taken-preserved : goal.loop-taken-preserved
loop-taken-preserved g c =
    let at = c.loop-taken in
    let x = c.in-Some.taken in
    let steps : into_iter_items at.taken-iterator ≡ x ∷ into_iter_items c.next.new.self = c.in-Some.ensures.steps.0 in
    let gone = c.in-Some.ensures.steps.1 in
    let long = at.invariant.2 in
    let room = at.invariant.3 in
    let short = ap length steps in
    let len = c.push_reserved.ensures.len in
    let capacity = c.push_reserved.ensures.capacity in
    let joined : Each (IsJoined g.P.Promise.kept_by) (at.yielded ++ x ∷ []) (at.outcomes.items ++ c.outcome_of.result ∷ []) =
    each_more _ at.yielded at.outcomes.items x c.outcome_of.result at.invariant.1 c.outcome_of.ensures in (
      append_assoc at.yielded (x ∷ []) _ ∙ rw (← steps) at.invariant.0,
      subst (λ os. Each (IsJoined g.P.Promise.kept_by) (at.yielded ++ x ∷ []) os) (sym c.push_reserved.ensures.items) joined,
      omega (arith, gone, long, short),
      omega (arith, gone, room, len, capacity),
    )
