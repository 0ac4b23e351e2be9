use Rattle.std.proofs.Common.{◌≡◌, ◌<◌, ◌∙◌, List, inl, length, drop, get_or, refl, sym, ap, subst, arith, true≢false}
use Rattle.std.proofs.lemmas.List.{length-append, length-map}
use Rattle.term.specs.Traces.{In}
use Rattle.term.specs.Proc.{Proc, stop, bodies_of}
use Rattle.term.specs.Limits.{HasDeep}
use Rattle.nodes.specs.Shapes.{at}
use Rattle.nodes.specs.Looks.{look}
use Rattle.nodes.proofs.Looking.{below-at}
use Rattle.keeping.proofs.Growing.{stays-same, stays-on}
use Rattle.tau_closures.proofs.Lists.{In-drop}
use Rattle.tau_closures.proofs.NumberLevels.{number-at, place-within, hides-at, tail-below, tail-look}
use Rattle.tau_closures.proofs.KeptPutting.{put-hidden, few-hidden, fault-hidden}
use Rattle.tau_closures.proofs.KeptExpanding.{kept-way-begins, kept-way-on, kept-way-many, kept-way-ends, kept-way-deep, broad-stuck, rest-shallow, In-rest}
use Rattle.tau_closures.proofs.kept.add_kept_level.Goals as goal

pub loop-place-init : goal.loop-place-init
loop-place-init g c =
    let s = c.args.states.now in
    let ns = c.args.seen.now in
    let S = look s.all.table.processes ns in
    let B = bodies_of c.args.spec.now.bodies in
    record {
      kept = stays-same s;
      here = c.requires.here;
      way = kept-way-begins B s.deep S c.args.from (omega (arith, c.requires.few, length-map ns (at s.all.table.processes)));
    }

pub put_kept-requires-clause-number : goal.put_kept-requires-clause-number
put_kept-requires-clause-number g c =
    let s = c.args.states.now in
    let ns = c.args.seen.now in
    let S = look s.all.table.processes ns in
    let l = c.loop-place.states in
    let seen = c.loop-place.seen in
    let i = c.loop-place.place in
    let way = c.loop-place.invariant.way in
    let h : i < length S = omega (arith, length-map ns (at s.all.table.processes), c.len-level.ensures) in
    subst (λ n. n < length l.all.table.processes) (sym c.number-number.ensures)
    (below-at (length l.all.table.processes) seen i c.number-number.result c.loop-place.invariant.here (place-within l.all.table.processes seen S way.more.0 i way.more.1 h))

pub put_kept-requires-clause-hides : goal.put_kept-requires-clause-hides
put_kept-requires-clause-hides g c =
    let s = c.args.states.now in
    let ns = c.args.seen.now in
    let S = look s.all.table.processes ns in
    let l = c.loop-place.states in
    let i = c.loop-place.place in
    let way = c.loop-place.invariant.way in
    let h : i < length S = omega (arith, length-map ns (at s.all.table.processes), c.len-level.ensures) in
    hides-at c.args.spec.now l.all S i c.number-number.result c.requires.events c.requires.lies h
    (number-at l.all.table.processes c.loop-place.seen S way.more.0 i c.number-number.result c.number-number.result way.more.1 h c.number-number.ensures)

pub returns-in-Err-clause-err : goal.returns-in-Err-clause-err
returns-in-Err-clause-err g c =
    let s = c.args.states.now in
    let ns = c.args.seen.now in
    let S = look s.all.table.processes ns in
    let l = c.loop-place.states in
    let i = c.loop-place.place in
    let n = c.number-number.result in
    let inv = c.loop-place.invariant in
    let way = inv.way in
    let now = look l.all.table.processes c.loop-place.seen in
    let B = bodies_of c.args.spec.now.bodies in
    let h : i < length S = omega (arith, length-map ns (at s.all.table.processes), c.len-level.ensures) in
    let e = number-at l.all.table.processes c.loop-place.seen S way.more.0 i n n way.more.1 h c.number-number.ensures in
    broad-stuck B s.deep S (drop c.args.from S) (get_or S i stop) (In-rest S c.args.from i (omega arith) h) c.in-Err.fault
    (fault-hidden c.args.spec.now s l c.requires.bodies inv.kept S i n e now now c.in-Err.fault c.in-Err.ensures.err)

pub returns-then-len-gt-MOST_STATES-clause-err : goal.returns-then-len-gt-MOST_STATES-clause-err
returns-then-len-gt-MOST_STATES-clause-err g c =
    let s = c.args.states.now in
    let ns = c.args.seen.now in
    let S = look s.all.table.processes ns in
    let l = c.loop-place.states in
    let u = c.put_kept.new.states in
    let i = c.loop-place.place in
    let n = c.number-number.result in
    let inv = c.loop-place.invariant in
    let way = inv.way in
    let now = look l.all.table.processes c.loop-place.seen in
    let new = look u.all.table.processes c.put_kept.new.into in
    let B = bodies_of c.args.spec.now.bodies in
    let h : i < length S = omega (arith, length-map ns (at s.all.table.processes), c.len-level.ensures) in
    let e = number-at l.all.table.processes c.loop-place.seen S way.more.0 i n n way.more.1 h c.number-number.ensures in
    let put = put-hidden c.args.spec.now s l c.requires.bodies inv.kept S i n e now new c.in-Ok.ensures.put in
    let thin = few-hidden c.args.spec.now s l c.requires.bodies inv.kept S i n e now new c.in-Ok.ensures.narrow in
    inl (kept-way-many B s.deep S c.args.from i now way (get_or S i stop) (omega arith) h refl new put thin c.requires.once (omega (arith, length-map c.put_kept.new.into (at u.all.table.processes), c.len.ensures)))

pub loop-place-preserved : goal.loop-place-preserved
loop-place-preserved g c =
    let s = c.args.states.now in
    let ns = c.args.seen.now in
    let S = look s.all.table.processes ns in
    let l = c.loop-place.states in
    let u = c.put_kept.new.states in
    let i = c.loop-place.place in
    let n = c.number-number.result in
    let inv = c.loop-place.invariant in
    let way = inv.way in
    let now = look l.all.table.processes c.loop-place.seen in
    let new = look u.all.table.processes c.put_kept.new.into in
    let B = bodies_of c.args.spec.now.bodies in
    let h : i < length S = omega (arith, length-map ns (at s.all.table.processes), c.len-level.ensures) in
    let e = number-at l.all.table.processes c.loop-place.seen S way.more.0 i n n way.more.1 h c.number-number.ensures in
    let put = put-hidden c.args.spec.now s l c.requires.bodies inv.kept S i n e now new c.in-Ok.ensures.put in
    let thin = few-hidden c.args.spec.now s l c.requires.bodies inv.kept S i n e now new c.in-Ok.ensures.narrow in
    record {
      kept = stays-on s l u inv.kept c.put_kept.ensures.kept;
      here = c.in-Ok.ensures.here;
      way = kept-way-on B s.deep S c.args.from i now way (get_or S i stop) (omega arith) h refl new put thin (omega (arith, length-map c.put_kept.new.into (at u.all.table.processes), c.len.ensures));
    }

pub returns-then-any_deep-clause-err : goal.returns-then-any_deep-clause-err
returns-then-any_deep-clause-err g c =
    let s = c.args.states.now in
    let ns = c.args.seen.now in
    let S = look s.all.table.processes ns in
    let l = c.loop-place.states in
    let now = look l.all.table.processes c.loop-place.seen in
    let B = bodies_of c.args.spec.now.bodies in
    let (Q, i, d) = subst (λ (x : List Proc). HasDeep (λ Q. In Q x)) (tail-look l.all.table.processes c.loop-place.seen c.tail.result.now c.len-level.result c.tail.ensures) (c.any_deep.ensures.0 c.if-any_deep.true) in
    let deep : HasDeep (λ R. In R now) = (Q, In-drop c.len-level.result now Q i, d) in
    kept-way-deep B s.deep S c.args.from c.loop-place.place now c.loop-place.invariant.way (omega (arith, length-map ns (at s.all.table.processes), c.len-level.ensures)) deep

pub returns-clause-ok : goal.returns-clause-ok
returns-clause-ok g c =
    let s = c.args.states.now in
    let ns = c.args.seen.now in
    let S = look s.all.table.processes ns in
    let l = c.loop-place.states in
    let now = look l.all.table.processes c.loop-place.seen in
    let B = bodies_of c.args.spec.now.bodies in
    let e = tail-look l.all.table.processes c.loop-place.seen c.tail.result.now c.len-level.result c.tail.ensures in
    let none : HasDeep (λ Q. In Q (drop c.len-level.result now)) → ⊥ = λ d. true≢false (sym (c.any_deep.ensures.1 (subst (λ (x : List Proc). HasDeep (λ Q. In Q x)) (sym e) d)) ∙ c.if-any_deep.false) in
    let place : c.len-level.result ≡ length S = omega (arith, length-map ns (at s.all.table.processes), c.len-level.ensures) in
    kept-way-ends B s.deep S c.args.from c.loop-place.place now c.loop-place.invariant.way (omega (arith, length-map ns (at s.all.table.processes), c.len-level.ensures))
    (rest-shallow S now c.len-level.result c.loop-place.invariant.way.more place c.requires.shallow none)

pub any_deep-requires : goal.any_deep-requires
any_deep-requires g c = record { here = tail-below (length c.loop-place.states.all.table.processes) c.loop-place.seen c.tail.result.now c.len-level.result c.tail.ensures c.loop-place.invariant.here }

pub tail-requires : goal.tail-requires
tail-requires g c =
    let s = c.args.states.now in
    let ns = c.args.seen.now in
    let S = look s.all.table.processes ns in
    let l = c.loop-place.states in
    let way = c.loop-place.invariant.way in
    omega (arith, ap (λ (x : List Proc). length x) way.more.1, length-append S way.more.0, length-map ns (at s.all.table.processes), length-map c.loop-place.seen (at l.all.table.processes), c.len-level.ensures)
