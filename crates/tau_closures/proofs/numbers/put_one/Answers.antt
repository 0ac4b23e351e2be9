use Rattle.std.proofs.Common.{ℕ, List, ◌∷◌, [], length, sym, subst}
use Rattle.nodes.specs.Shapes.{at}
use Rattle.nodes.specs.Looks.{look, AllBelow}
use Rattle.nodes.proofs.Acting.{on-ok}
use Rattle.tau_closures.specs.Closing.{HasPut}
use Rattle.tau_closures.proofs.NumberPutting.{insert-below, insert-put}
use Rattle.tau_closures.proofs.numbers.put_one.Goals as goal

pub returns-clause-here : goal.returns-clause-here
returns-clause-here g c =
    on-ok c.put.result _ _ c.put.ensures
    (λ e. subst (λ (l : List ℕ). AllBelow (length c.args.all.now.table.processes) l) (sym e)
    (insert-below (length c.args.all.now.table.processes) c.args.into.now c.args.number c.requires.here c.requires.number))

pub returns-clause-put : goal.returns-clause-put
returns-clause-put g c =
    let ps = c.args.all.now.table.processes in
    on-ok c.put.result _ _ c.put.ensures
    (λ e. subst (λ (l : List ℕ). HasPut (at ps c.args.number ∷ []) (look ps c.args.into.now) (look ps l)) (sym e)
    (insert-put ps c.args.into.now c.args.number c.once.ensures c.requires.number c.requires.here))
