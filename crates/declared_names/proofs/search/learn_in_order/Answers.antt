use Rattle.std.proofs.Common.{sym, subst}
use Rattle.declared_names.proofs.Searching.{reached_then}
use Rattle.declared_names.proofs.search.learn_in_order.Goals as goal
use Rattle.declared_names.proofs.search.learn_in_order.Goals.{in-Some+in_ok-_new, in_default}

pub loop-place-preserved : goal.loop-place-preserved
loop-place-preserved g c =
    let s = c.args.learner.now in
    elim c.match-name_at.branch [
      | in-Some+in_ok-_new w ↦ subst (g.L.Learner.reached s) (sym w.table-is) (reached_then g.L.Learner.knows (g.L.Learner.reached s) (g.L.Learner.settled s) c.loop-place.table w.learn.new.table w.in_ok-_new._new w.in-Some.name.now c.loop-place.invariant w.in_ok-_new.ensures)
      | in_default w ↦ subst (g.L.Learner.reached s) (sym w.table-is) c.loop-place.invariant
    ]
