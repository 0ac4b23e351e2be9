use Rattle.std.proofs.Common.{◌<◌, ◌+◌, ◌∙◌, List, length, sym, subst, arith, true≢false}
use Rattle.std.proofs.lemmas.List.{length-map}
use Rattle.term.specs.Traces.{In}
use Rattle.term.specs.Proc.{Proc, bodies_of}
use Rattle.nodes.specs.Shapes.{at}
use Rattle.nodes.specs.Looks.{look, AllBelow}
use Rattle.nodes.proofs.Looking.{below-at}
use Rattle.keeping.specs.Kept.{Keeping, StaysKept}
use Rattle.keeping.proofs.Growing.{stays-same, stays-on}
use Rattle.tau_closures.proofs.Lists.{In-drop}
use Rattle.tau_closures.proofs.Expanding.{IsOnTheWay, way-begins, way-ends, way-many}
use Rattle.tau_closures.proofs.NumberLevels.{number-at, place-within, hides-at, tail-below, tail-look, deep-tail, level-cut, level-goes-on}
use Rattle.tau_closures.proofs.closing.add_level.Goals as goal

pub any_deep_target-requires-clause-here : goal.any_deep_target-requires-clause-here
any_deep_target-requires-clause-here g c = tail-below (length c.args.states.now.all.table.processes) c.args.seen.now c.tail.result.now c.args.from c.tail.ensures c.requires.here

pub any_deep_target-requires-clause-shallow : goal.any_deep_target-requires-clause-shallow
any_deep_target-requires-clause-shallow g c =
    let ps = c.args.states.now.all.table.processes in
    λ P i. c.requires.shallow P (In-drop c.args.from (look ps c.args.seen.now) P (subst (λ (l : List Proc). In P l) (tail-look ps c.args.seen.now c.tail.result.now c.args.from c.tail.ensures) i))

pub returns-then-branch-clause-err : goal.returns-then-branch-clause-err
returns-then-branch-clause-err g c =
    (deep-tail c.args.spec.now c.args.states.now.all c.args.seen.now c.tail.result.now c.args.from c.in_ok-any_deep_target.field-0 c.requires.bodies c.tail.ensures c.in_ok-any_deep_target.ensures.deep).0 c.if-branch.true

pub loop-place-init : goal.loop-place-init
loop-place-init g c =
    let s = c.args.states.now.all in
    let ns = c.args.seen.now in
    let S = look s.table.processes ns in
    let B = bodies_of c.args.spec.now.bodies in
    let same = sym c.any_deep_target.ensures.same in
    record {
      kept = subst (λ (a : Keeping). StaysKept c.args.states.now a) same (stays-same c.args.states.now);
      here = subst (λ (a : Keeping). AllBelow (length a.all.table.processes) ns) same c.requires.here;
      way = subst (λ (a : Keeping). IsOnTheWay B S c.args.from c.args.from (look a.all.table.processes ns)) same
          (way-begins B S c.args.from c.requires.once (omega (arith, c.requires.few, length-map ns (at s.table.processes))));
    }

pub number-number-requires : goal.number-number-requires
number-number-requires g c =
    let s = c.args.states.now.all in
    let ns = c.args.seen.now in
    let S = look s.table.processes ns in
    let l = c.loop-place.states.all in
    let way = c.loop-place.invariant.way in
    let h : c.loop-place.place < length S = omega (arith, length-map ns (at s.table.processes), c.len-level.ensures) in
    place-within l.table.processes c.loop-place.seen S way.more.0 c.loop-place.place way.more.1 h

pub put_targets-requires-clause-number : goal.put_targets-requires-clause-number
put_targets-requires-clause-number g c =
    let s = c.args.states.now.all in
    let ns = c.args.seen.now in
    let S = look s.table.processes ns in
    let l = c.loop-place.states.all in
    let seen = c.loop-place.seen in
    let i = c.loop-place.place in
    let way = c.loop-place.invariant.way in
    let h : i < length S = omega (arith, length-map ns (at s.table.processes), c.len-level.ensures) in
    subst (λ n. n < length l.table.processes) (sym c.number-number.ensures)
    (below-at (length l.table.processes) seen i c.number-number.result c.loop-place.invariant.here (place-within l.table.processes seen S way.more.0 i way.more.1 h))

pub put_targets-requires-clause-hides : goal.put_targets-requires-clause-hides
put_targets-requires-clause-hides g c =
    let s = c.args.states.now.all in
    let ns = c.args.seen.now in
    let S = look s.table.processes ns in
    let l = c.loop-place.states.all in
    let i = c.loop-place.place in
    let way = c.loop-place.invariant.way in
    let h : i < length S = omega (arith, length-map ns (at s.table.processes), c.len-level.ensures) in
    hides-at c.args.spec.now l S i c.number-number.result c.requires.events c.requires.lies h
    (number-at l.table.processes c.loop-place.seen S way.more.0 i c.number-number.result c.number-number.result way.more.1 h c.number-number.ensures)

pub returns-then-len-gt-MOST_STATES-clause-err : goal.returns-then-len-gt-MOST_STATES-clause-err
returns-then-len-gt-MOST_STATES-clause-err g c =
    let s = c.args.states.now.all in
    let ns = c.args.seen.now in
    let S = look s.table.processes ns in
    let l = c.loop-place.states.all in
    let u = c.put_targets.new.states.all in
    let i = c.loop-place.place in
    let n = c.number-number.result in
    let way = c.loop-place.invariant.way in
    let new = look u.table.processes c.put_targets.new.into in
    let h : i < length S = omega (arith, length-map ns (at s.table.processes), c.len-level.ensures) in
    let e = number-at l.table.processes c.loop-place.seen S way.more.0 i n n way.more.1 h c.number-number.ensures in
    let deep = deep-tail c.args.spec.now s ns c.tail.result.now c.args.from c.in_ok-any_deep_target.field-0 c.requires.bodies c.tail.ensures c.in_ok-any_deep_target.ensures.deep in (
      (λ d. true≢false (sym (deep.1 d) ∙ c.if-branch.false)),
      way-many (bodies_of c.args.spec.now.bodies) S c.args.from (i + 1) new
          (level-cut c.args.spec.now l (c.loop-place.invariant.kept.all.bodies ∙ c.requires.bodies) S c.args.from i n c.loop-place.seen new way (omega arith) h e c.in_ok-put_targets.ensures.put)
          (omega (arith, length-map c.put_targets.new.into (at u.table.processes), c.len.ensures)),
    )

pub loop-place-preserved : goal.loop-place-preserved
loop-place-preserved g c =
    let s = c.args.states.now.all in
    let ns = c.args.seen.now in
    let S = look s.table.processes ns in
    let l = c.loop-place.states.all in
    let u = c.put_targets.new.states.all in
    let i = c.loop-place.place in
    let n = c.number-number.result in
    let way = c.loop-place.invariant.way in
    let new = look u.table.processes c.put_targets.new.into in
    let h : i < length S = omega (arith, length-map ns (at s.table.processes), c.len-level.ensures) in
    let e = number-at l.table.processes c.loop-place.seen S way.more.0 i n n way.more.1 h c.number-number.ensures in
    record {
      kept = stays-on c.args.states.now c.loop-place.states c.put_targets.new.states c.loop-place.invariant.kept c.put_targets.ensures.kept;
      here = c.in_ok-put_targets.ensures.here;
      way = level-goes-on c.args.spec.now l (c.loop-place.invariant.kept.all.bodies ∙ c.requires.bodies) S c.args.from i n c.loop-place.seen new way (omega arith) h e c.in_ok-put_targets.ensures.put
          (omega (arith, length-map c.put_targets.new.into (at u.table.processes), c.len.ensures));
    }

pub returns-clause-ok : goal.returns-clause-ok
returns-clause-ok g c =
    let s = c.args.states.now.all in
    let ns = c.args.seen.now in
    let S = look s.table.processes ns in
    let deep = deep-tail c.args.spec.now s ns c.tail.result.now c.args.from c.in_ok-any_deep_target.field-0 c.requires.bodies c.tail.ensures c.in_ok-any_deep_target.ensures.deep in
    way-ends (bodies_of c.args.spec.now.bodies) S c.args.from c.loop-place.place (look c.loop-place.states.all.table.processes c.loop-place.seen) c.loop-place.invariant.way
    (omega (arith, length-map ns (at s.table.processes), c.len-level.ensures))
    (λ d. true≢false (sym (deep.1 d) ∙ c.if-branch.false))
