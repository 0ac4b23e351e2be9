use Rattle.std.proofs.Common.{◌≤◌, ◌+◌, ◌∙◌, ℕ, List, length, take, get_or, sym, subst, ap, arith, true≢false}
use Rattle.std.proofs.lemmas.List.{length-map, take_all}
use Rattle.alphabet.specs.Channels.{event_count}
use Rattle.term.specs.Traces.{In}
use Rattle.term.specs.Proc.{Proc, bodies_of}
use Rattle.term.specs.Limits.{HasDeep}
use Rattle.targets.specs.declared.labels.Label.TheVariants as label
use Rattle.targets.proofs.Lying.{lies-small}
use Rattle.nodes.specs.Shapes.{at}
use Rattle.nodes.specs.Looks.{look, AllBelow}
use Rattle.nodes.proofs.Looking.{below-at}
use Rattle.transitions.proofs.Keeping.{at-kept, within-kept, hides-kept}
use Rattle.keeping.proofs.Growing.{stays-same, stays-on}
use Rattle.tau_closures.proofs.NumberPutting.{look-more}
use Rattle.tau_closures.proofs.NumberLevels.{In-look, In-taken}
use Rattle.tau_closures.proofs.KeptPutting.{put-by, few-by, fault-by}
use Rattle.tau_closures.proofs.KeptExpanding.{not-deep-shallow}
use Rattle.tau_closures.proofs.KeptFirst.{IsKeptStart, start-begins, start-on, start-many, start-ends, start-broad, start-deep}
use Rattle.tau_closures.proofs.kept.first_kept.Goals as goal

pub loop-number-init : goal.loop-number-init
loop-number-init g c =
    let s = c.args.states.now in
    record {
      kept = stays-same s;
      here = subst (λ (l : List ℕ). AllBelow (length s.all.table.processes) l) (sym c.with_room-first.ensures) tt;
      start = start-begins (bodies_of c.args.spec.now.bodies) s.deep (label.Event c.args.event) (look s.all.table.processes c.with_room-first.result) (ap (λ (l : List ℕ). look s.all.table.processes l) c.with_room-first.ensures);
    }

pub put_kept-requires-clause-number : goal.put_kept-requires-clause-number
put_kept-requires-clause-number g c =
    let s = c.args.states.now in
    let ns = c.args.numbers.now in
    let i = c.loop-number.number-index in
    within-kept s.all c.loop-number.states.all c.loop-number.invariant.kept.all (get_or ns i 0) (below-at (length s.all.table.processes) ns i 0 c.requires.here c.loop-number-test.true)

pub put_kept-requires-clause-hides : goal.put_kept-requires-clause-hides
put_kept-requires-clause-hides g c =
    let s = c.args.states.now in
    let ns = c.args.numbers.now in
    let i = c.loop-number.number-index in
    let n = get_or ns i 0 in
    let spec = c.args.spec.now in
    let P = at s.all.table.processes n in
    let small : event_count spec.alphabet ≤ 256 = rw (c.len-events.ensures.count, c.alphabet.ensures) at c.len-events.ensures.limit in
    hides-kept s.all c.loop-number.states.all c.loop-number.invariant.kept.all n (below-at (length s.all.table.processes) ns i 0 c.requires.here c.loop-number-test.true)
    (lies-small (event_count spec.alphabet) (length spec.bodies) small P (c.requires.lies P (In-look s.all.table.processes ns i c.loop-number-test.true)))

pub returns-in-Err-clause-err : goal.returns-in-Err-clause-err
returns-in-Err-clause-err g c =
    let s = c.args.states.now in
    let l = c.loop-number.states in
    let ns = c.args.numbers.now in
    let i = c.loop-number.number-index in
    let n = get_or ns i 0 in
    let x = label.Event c.args.event in
    let P = at s.all.table.processes n in
    let inv = c.loop-number.invariant in
    let e = at-kept s.all l.all inv.kept.all n (below-at (length s.all.table.processes) ns i 0 c.requires.here c.loop-number-test.true) in
    start-broad (bodies_of c.args.spec.now.bodies) s.deep x (look s.all.table.processes ns) P (In-look s.all.table.processes ns i c.loop-number-test.true) c.in-Err.fault
    (fault-by c.args.spec.now s l c.requires.bodies inv.kept x P n e c.in-Err.fault c.in-Err.ensures.err)

pub returns-in-Err-clause-kept : goal.returns-in-Err-clause-kept
returns-in-Err-clause-kept g c = stays-on c.args.states.now c.loop-number.states c.put_kept.new.states c.loop-number.invariant.kept c.put_kept.ensures.kept

pub returns-then-len-gt-MOST_STATES-clause-kept : goal.returns-then-len-gt-MOST_STATES-clause-kept
returns-then-len-gt-MOST_STATES-clause-kept g c = stays-on c.args.states.now c.loop-number.states c.put_kept.new.states c.loop-number.invariant.kept c.put_kept.ensures.kept

pub returns-then-len-gt-MOST_STATES-clause-err : goal.returns-then-len-gt-MOST_STATES-clause-err
returns-then-len-gt-MOST_STATES-clause-err g c =
    let s = c.args.states.now in
    let l = c.loop-number.states in
    let u = c.put_kept.new.states in
    let ps = s.all.table.processes in
    let ns = c.args.numbers.now in
    let i = c.loop-number.number-index in
    let n = get_or ns i 0 in
    let x = label.Event c.args.event in
    let P = at ps n in
    let B = bodies_of c.args.spec.now.bodies in
    let inv = c.loop-number.invariant in
    let now = look l.all.table.processes c.loop-number.first in
    let new = look u.all.table.processes c.put_kept.new.into in
    let e = at-kept s.all l.all inv.kept.all n (below-at (length ps) ns i 0 c.requires.here c.loop-number-test.true) in
    start-many B s.deep x (look ps (take i ns)) now inv.start P new
    (put-by c.args.spec.now s l c.requires.bodies inv.kept x P n e now new c.in-Ok.ensures.put)
    (few-by c.args.spec.now s l c.requires.bodies inv.kept x P n e c.in-Ok.ensures.narrow)
    (look ps ns)
    (λ R j. In-taken ps ns (i + 1) R (subst (λ (v : List Proc). In R v) (sym (look-more ps ns i 0 c.loop-number-test.true)) j))
    (omega (arith, length-map c.put_kept.new.into (at u.all.table.processes), c.len.ensures))

pub loop-number-preserved : goal.loop-number-preserved
loop-number-preserved g c =
    let s = c.args.states.now in
    let l = c.loop-number.states in
    let u = c.put_kept.new.states in
    let ps = s.all.table.processes in
    let ns = c.args.numbers.now in
    let i = c.loop-number.number-index in
    let n = get_or ns i 0 in
    let x = label.Event c.args.event in
    let P = at ps n in
    let B = bodies_of c.args.spec.now.bodies in
    let inv = c.loop-number.invariant in
    let now = look l.all.table.processes c.loop-number.first in
    let new = look u.all.table.processes c.put_kept.new.into in
    let e = at-kept s.all l.all inv.kept.all n (below-at (length ps) ns i 0 c.requires.here c.loop-number-test.true) in
    let w = start-on B s.deep x (look ps (take i ns)) now inv.start P new
    (put-by c.args.spec.now s l c.requires.bodies inv.kept x P n e now new c.in-Ok.ensures.put)
    (few-by c.args.spec.now s l c.requires.bodies inv.kept x P n e c.in-Ok.ensures.narrow)
    (omega (arith, length-map c.put_kept.new.into (at u.all.table.processes), c.len.ensures)) in
    record {
      kept = stays-on s l u inv.kept c.put_kept.ensures.kept;
      here = c.in-Ok.ensures.here;
      start = subst (λ (v : List Proc). IsKeptStart B s.deep x v new) (sym (look-more ps ns i 0 c.loop-number-test.true)) w;
    }

pub returns-then-any_deep-clause-err : goal.returns-then-any_deep-clause-err
returns-then-any_deep-clause-err g c =
    let s = c.args.states.now in
    let l = c.loop-number.states in
    let ps = s.all.table.processes in
    let ns = c.args.numbers.now in
    let x = label.Event c.args.event in
    let B = bodies_of c.args.spec.now.bodies in
    let now = look l.all.table.processes c.loop-number.first in
    let w = subst (λ (v : List ℕ). IsKeptStart B s.deep x (look ps v) now) (take_all c.loop-number.number-index ns (omega arith)) c.loop-number.invariant.start in
    let deep = subst (λ (v : List ℕ). HasDeep (λ Q. In Q (look l.all.table.processes v))) c.as_slice.ensures (c.any_deep.ensures.0 c.if-any_deep.true) in
    start-deep B s.deep x (look ps ns) now w deep

pub returns-clause-all : goal.returns-clause-all
returns-clause-all g c =
    let s = c.args.states.now in
    let l = c.loop-number.states in
    let ps = s.all.table.processes in
    let ns = c.args.numbers.now in
    let x = label.Event c.args.event in
    let B = bodies_of c.args.spec.now.bodies in
    let now = look l.all.table.processes c.loop-number.first in
    let w = subst (λ (v : List ℕ). IsKeptStart B s.deep x (look ps v) now) (take_all c.loop-number.number-index ns (omega arith)) c.loop-number.invariant.start in
    let none : HasDeep (λ Q. In Q now) → ⊥ = λ d. true≢false (sym (c.any_deep.ensures.1 (subst (λ (v : List ℕ). HasDeep (λ Q. In Q (look l.all.table.processes v))) (sym c.as_slice.ensures) d)) ∙ c.if-any_deep.false) in
    start-ends B s.deep x (look ps ns) now w (not-deep-shallow now none)
