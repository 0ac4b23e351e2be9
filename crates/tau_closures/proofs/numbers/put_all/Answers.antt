use Rattle.std.proofs.Common.{List, ℕ, length, subst, arith}
use Rattle.std.proofs.lemmas.List.{take_all}
use Rattle.nodes.specs.Looks.{look}
use Rattle.nodes.proofs.Looking.{below-at}
use Rattle.tau_closures.specs.Closing.{HasPut}
use Rattle.tau_closures.proofs.Putting.{put-none}
use Rattle.tau_closures.proofs.NumberPutting.{put-more}
use Rattle.tau_closures.proofs.numbers.put_all.Goals as goal

pub loop-number-init : goal.loop-number-init
loop-number-init g c = record { here = c.requires.here; put = put-none (look c.args.all.now.table.processes c.args.into.now) }

pub put_one-requires-clause-number : goal.put_one-requires-clause-number
put_one-requires-clause-number g c = below-at (length c.args.all.now.table.processes) c.args.numbers.now c.loop-number.number-index 0 c.requires.numbers c.loop-number-test.true

pub loop-number-preserved : goal.loop-number-preserved
loop-number-preserved g c =
    let ps = c.args.all.now.table.processes in
    record {
      here = c.in_ok-put_one.ensures.here;
      put = put-more ps c.args.numbers.now c.loop-number.number-index (look ps c.args.into.now) (look ps c.loop-number.into) (look ps c.put_one.new.into) c.loop-number-test.true c.loop-number.invariant.put c.in_ok-put_one.ensures.put;
    }

pub returns-clause-put : goal.returns-clause-put
returns-clause-put g c =
    let ps = c.args.all.now.table.processes in
    subst (λ (l : List ℕ). HasPut (look ps l) (look ps c.args.into.now) (look ps c.loop-number.into)) (take_all c.loop-number.number-index c.args.numbers.now (omega arith)) c.loop-number.invariant.put
