use Rattle.std.proofs.Common.{◌≡◌, ◌∙◌, List, length, subst, arith}
use Rattle.std.proofs.lemmas.List.{length-map, take-append-drop}
use Rattle.term.specs.Proc.{Proc}
use Rattle.nodes.specs.Shapes.{at}
use Rattle.nodes.specs.Looks.{look}
use Rattle.keeping.proofs.Growing.{stays-same, stays-on}
use Rattle.tau_closures.specs.Closing.{Among, AllShallow}
use Rattle.tau_closures.proofs.Rounds.{IsRound, round-begins, round-once, round-few, round-stuck, round-next, round-end}
use Rattle.tau_closures.proofs.closing.closed.Goals as goal

pub loop-from-init : goal.loop-from-init
loop-from-init g c =
    record {
      kept = stays-same c.args.states.now;
      here = c.requires.here;
      round = round-begins c.args.spec.now (look c.args.states.now.all.table.processes c.args.first) c.requires.first;
    }

pub add_level-requires-clause-events : goal.add_level-requires-clause-events
add_level-requires-clause-events g c = rw (c.len-events.ensures.count, c.alphabet.ensures) at c.len-events.ensures.limit

pub add_level-requires-clause-bodies : goal.add_level-requires-clause-bodies
add_level-requires-clause-bodies g c = c.loop-from.invariant.kept.all.bodies ∙ c.requires.bodies

pub add_level-requires-clause-once : goal.add_level-requires-clause-once
add_level-requires-clause-once g c =
    round-once c.args.spec.now (Among (look c.args.states.now.all.table.processes c.args.first)) (look c.loop-from.states.all.table.processes c.loop-from.seen) c.loop-from.from c.loop-from.invariant.round

pub add_level-requires-clause-few : goal.add_level-requires-clause-few
add_level-requires-clause-few g c =
    let few = round-few c.args.spec.now (Among (look c.args.states.now.all.table.processes c.args.first)) (look c.loop-from.states.all.table.processes c.loop-from.seen) c.loop-from.from c.loop-from.invariant.round in
    omega (arith, few, length-map c.loop-from.seen (at c.loop-from.states.all.table.processes))

pub add_level-requires-clause-shallow : goal.add_level-requires-clause-shallow
add_level-requires-clause-shallow g c =
    let all = look c.loop-from.states.all.table.processes c.loop-from.seen in
    subst (λ (l : List Proc). AllShallow l) (take-append-drop c.loop-from.from all) c.loop-from.invariant.round.level.1.shallow

pub loop-from-preserved : goal.loop-from-preserved
loop-from-preserved g c =
    let s = c.args.states.now.all in
    let l = c.loop-from.states.all in
    let u = c.add_level.new.states.all in
    let L = Among (look s.table.processes c.args.first) in
    let all = look l.table.processes c.loop-from.seen in
    let new = look u.table.processes c.add_level.new.seen in
    let e : length all ≡ c.len-level.result = omega (arith, c.len-level.ensures, length-map c.loop-from.seen (at l.table.processes)) in
    record {
      kept = stays-on c.args.states.now c.loop-from.states c.add_level.new.states c.loop-from.invariant.kept c.add_level.ensures.kept;
      here = c.in-Ok.ensures.here;
      round = subst (λ n. IsRound c.args.spec.now L new n) e (round-next c.args.spec.now L all c.loop-from.from c.loop-from.invariant.round c.requires.closed new c.in-Ok.ensures.ok);
    }

pub returns-in-Err-clause-err : goal.returns-in-Err-clause-err
returns-in-Err-clause-err g c =
    round-stuck c.args.spec.now (Among (look c.args.states.now.all.table.processes c.args.first)) (look c.loop-from.states.all.table.processes c.loop-from.seen) c.loop-from.from c.loop-from.invariant.round c.in-Err.fault c.in-Err.ensures.err

pub returns-clause-ok : goal.returns-clause-ok
returns-clause-ok g c =
    round-end c.args.spec.now (Among (look c.args.states.now.all.table.processes c.args.first)) (look c.loop-from.states.all.table.processes c.loop-from.seen) c.loop-from.from c.loop-from.invariant.round
    (omega (arith, c.len.ensures, length-map c.loop-from.seen (at c.loop-from.states.all.table.processes)))

pub returns-in-Err-clause-kept : goal.returns-in-Err-clause-kept
returns-in-Err-clause-kept g c = stays-on c.args.states.now c.loop-from.states c.add_level.new.states c.loop-from.invariant.kept c.add_level.ensures.kept
