use Rattle.std.proofs.Common.{◌≡◌, ◌∙◌, ℕ, length, drop, subst, arith}
use Rattle.std.proofs.lemmas.List.{length-map}
use Rattle.term.specs.Proc.{bodies_of}
use Rattle.nodes.specs.Shapes.{at}
use Rattle.nodes.specs.Looks.{look}
use Rattle.keeping.proofs.Growing.{stays-same, stays-on}
use Rattle.tau_closures.specs.Closing.{Among}
use Rattle.tau_closures.proofs.Lists.{In-drop}
use Rattle.tau_closures.specs.Kept.{KeptGrows, IsKeptStuck}
use Rattle.tau_closures.proofs.KeptLevels.{IsKeptPart, kept-begins, part-once, part-few, part-shallow, part-stuck, part-next, part-end}
use Rattle.tau_closures.proofs.KeptExpanding.{grows-lies}
use Rattle.tau_closures.proofs.kept.closed_kept.Goals as goal

pub loop-from-init : goal.loop-from-init
loop-from-init g c =
    let s = c.args.states.now in
    let S = look s.all.table.processes c.args.first in
    let o = c.requires.first in
    record {
      kept = stays-same s;
      here = c.requires.here;
      lies = o.lies;
      part = record {
        place = omega arith;
        level = (0, kept-begins (bodies_of c.args.spec.now.bodies) s.deep (Among S) ⊥ S (λ Q i. i) (λ Q i. i) o.once o.few o.shallow (λ x. x));
      };
    }

pub add_kept_level-requires-clause-events : goal.add_kept_level-requires-clause-events
add_kept_level-requires-clause-events g c = rw (c.len-events.ensures.count, c.alphabet.ensures) at c.len-events.ensures.limit

pub add_kept_level-requires-clause-bodies : goal.add_kept_level-requires-clause-bodies
add_kept_level-requires-clause-bodies g c = c.loop-from.invariant.kept.all.bodies ∙ c.requires.bodies

pub add_kept_level-requires-clause-once : goal.add_kept_level-requires-clause-once
add_kept_level-requires-clause-once g c =
    let s = c.args.states.now in
    let l = c.loop-from.states in
    part-once (bodies_of c.args.spec.now.bodies) s.deep (Among (look s.all.table.processes c.args.first)) ⊥ (look l.all.table.processes c.loop-from.seen) c.loop-from.from c.loop-from.invariant.part

pub add_kept_level-requires-clause-few : goal.add_kept_level-requires-clause-few
add_kept_level-requires-clause-few g c =
    let s = c.args.states.now in
    let l = c.loop-from.states in
    let few = part-few (bodies_of c.args.spec.now.bodies) s.deep (Among (look s.all.table.processes c.args.first)) ⊥ (look l.all.table.processes c.loop-from.seen) c.loop-from.from c.loop-from.invariant.part in
    omega (arith, few, length-map c.loop-from.seen (at l.all.table.processes))

pub add_kept_level-requires-clause-shallow : goal.add_kept_level-requires-clause-shallow
add_kept_level-requires-clause-shallow g c =
    let s = c.args.states.now in
    let l = c.loop-from.states in
    part-shallow (bodies_of c.args.spec.now.bodies) s.deep (Among (look s.all.table.processes c.args.first)) ⊥ (look l.all.table.processes c.loop-from.seen) c.loop-from.from c.loop-from.invariant.part

pub loop-from-preserved : goal.loop-from-preserved
loop-from-preserved g c =
    let s = c.args.states.now in
    let l = c.loop-from.states in
    let u = c.add_kept_level.new.states in
    let inv = c.loop-from.invariant in
    let B = bodies_of c.args.spec.now.bodies in
    let L = Among (look s.all.table.processes c.args.first) in
    let all = look l.all.table.processes c.loop-from.seen in
    let new = look u.all.table.processes c.add_kept_level.new.seen in
    let e : length all ≡ c.len-level.result = omega (arith, c.len-level.ensures, length-map c.loop-from.seen (at l.all.table.processes)) in
    let grows : KeptGrows B s.deep (drop c.loop-from.from all) all new = subst (λ (d : ℕ). KeptGrows B d (drop c.loop-from.from all) all new) inv.kept.deep c.in-Ok.ensures.ok in
    record {
      kept = stays-on s l u inv.kept c.add_kept_level.ensures.kept;
      here = c.in-Ok.ensures.here;
      lies = grows-lies c.args.spec.now c.requires.closed s.deep (drop c.loop-from.from all) all new grows (λ Q i. In-drop c.loop-from.from all Q i) inv.lies;
      part = subst (λ (n : ℕ). IsKeptPart B s.deep L ⊥ new n) e (part-next B s.deep L ⊥ all c.loop-from.from inv.part new grows);
    }

pub returns-in-Err-clause-err : goal.returns-in-Err-clause-err
returns-in-Err-clause-err g c =
    let s = c.args.states.now in
    let l = c.loop-from.states in
    let inv = c.loop-from.invariant in
    let B = bodies_of c.args.spec.now.bodies in
    let all = look l.all.table.processes c.loop-from.seen in
    let stuck = subst (λ (d : ℕ). IsKeptStuck B d (drop c.loop-from.from all) all c.in-Err.fault) inv.kept.deep c.in-Err.ensures.err in
    part-stuck B s.deep (Among (look s.all.table.processes c.args.first)) ⊥ all c.loop-from.from inv.part c.in-Err.fault stuck

pub returns-in-Err-clause-kept : goal.returns-in-Err-clause-kept
returns-in-Err-clause-kept g c = stays-on c.args.states.now c.loop-from.states c.add_kept_level.new.states c.loop-from.invariant.kept c.add_kept_level.ensures.kept

pub returns-clause-ok : goal.returns-clause-ok
returns-clause-ok g c =
    let s = c.args.states.now in
    let l = c.loop-from.states in
    let all = look l.all.table.processes c.loop-from.seen in
    part-end (bodies_of c.args.spec.now.bodies) s.deep (Among (look s.all.table.processes c.args.first)) ⊥ all c.loop-from.from c.loop-from.invariant.part (omega (arith, length-map c.loop-from.seen (at l.all.table.processes), c.len.ensures))
