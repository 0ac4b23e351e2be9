use Rattle.std.proofs.Common.{ℕ, ◌≤◌, ◌+◌, ◌∙◌, ◌++◌, ◌∷◌, [], List, length, take, get_or, sym, subst, arith}
use Rattle.std.proofs.lemmas.List.{length-map}
use Rattle.alphabet.specs.Channels.{event_count}
use Rattle.term.specs.Limits.{most_states}
use Rattle.term.specs.Proc.{Proc, bodies_of}
use Rattle.targets.specs.declared.labels.Label.TheVariants as label
use Rattle.targets.specs.Cuts.{CutOf}
use Rattle.nodes.specs.Shapes.{at}
use Rattle.nodes.specs.Looks.{look, AllBelow}
use Rattle.nodes.proofs.Looking.{below-at}
use Rattle.transitions.proofs.Keeping.{at-kept, within-kept, hides-kept}
use Rattle.keeping.proofs.Growing.{stays-same, stays-on}
use Rattle.tau_closures.specs.Closing.{TargetOf}
use Rattle.targets.proofs.Lying.{lies-small}
use Rattle.tau_closures.proofs.NumberPutting.{look-more}
use Rattle.tau_closures.proofs.NumberLevels.{In-look, first-put, first-many}
use Rattle.targets.proofs.Cutting.{cut-none}
use Rattle.tau_closures.proofs.closing.first_level.Goals as goal

pub loop-number-init : goal.loop-number-init
loop-number-init g c =
    let s = c.args.states.now.all in
    let x = label.Event c.args.event in
    let B = bodies_of c.args.spec.now.bodies in
    let none : CutOf (TargetOf B [] x) most_states [] = cut-none (TargetOf B [] x) most_states (λ Q (P, i, d). elim i [ ]) in
    let empty = sym c.with_room-first.ensures in
    record {
      kept = stays-same c.args.states.now;
      here = subst (λ (l : List ℕ). AllBelow (length s.table.processes) l) empty tt;
      cut = subst (λ (l : List ℕ). CutOf (TargetOf B [] x) most_states (look s.table.processes l)) empty none;
      few = subst (λ (l : List ℕ). length (look s.table.processes l) ≤ most_states) empty (omega arith);
    }

pub put_targets-requires-clause-number : goal.put_targets-requires-clause-number
put_targets-requires-clause-number g c =
    let s = c.args.states.now.all in
    let ns = c.args.numbers.now in
    let i = c.loop-number.number-index in
    within-kept s c.loop-number.states.all c.loop-number.invariant.kept.all (get_or ns i 0) (below-at (length s.table.processes) ns i 0 c.requires.here c.loop-number-test.true)

pub put_targets-requires-clause-hides : goal.put_targets-requires-clause-hides
put_targets-requires-clause-hides g c =
    let s = c.args.states.now.all in
    let ns = c.args.numbers.now in
    let i = c.loop-number.number-index in
    let n = get_or ns i 0 in
    let spec = c.args.spec.now in
    let P = at s.table.processes n in
    let small : event_count spec.alphabet ≤ 256 = rw (c.len-events.ensures.count, c.alphabet.ensures) at c.len-events.ensures.limit in
    hides-kept s c.loop-number.states.all c.loop-number.invariant.kept.all n (below-at (length s.table.processes) ns i 0 c.requires.here c.loop-number-test.true)
    (lies-small (event_count spec.alphabet) (length spec.bodies) small P (c.requires.lies P (In-look s.table.processes ns i c.loop-number-test.true)))

pub returns-then-len-gt-MOST_STATES-clause-err : goal.returns-then-len-gt-MOST_STATES-clause-err
returns-then-len-gt-MOST_STATES-clause-err g c =
    let s = c.args.states.now.all in
    let l = c.loop-number.states.all in
    let u = c.put_targets.new.states.all in
    let ns = c.args.numbers.now in
    let i = c.loop-number.number-index in
    let n = get_or ns i 0 in
    let x = label.Event c.args.event in
    let B = bodies_of c.args.spec.now.bodies in
    let inv = c.loop-number.invariant in
    let within = below-at (length s.table.processes) ns i 0 c.requires.here c.loop-number-test.true in
    let new = look u.table.processes c.put_targets.new.into in
    let cut : CutOf (TargetOf B (look s.table.processes (take (i + 1) ns)) x) most_states new =
    subst (λ (ps : List Proc). CutOf (TargetOf B ps x) most_states new) (sym (look-more s.table.processes ns i 0 c.loop-number-test.true))
    (subst (λ (P : Proc). CutOf (TargetOf B (look s.table.processes (take i ns) ++ P ∷ []) x) most_states new) (at-kept s l inv.kept.all n within)
    (first-put c.args.spec.now l (inv.kept.all.bodies ∙ c.requires.bodies) (look s.table.processes (take i ns)) (at l.table.processes n) x (look l.table.processes c.loop-number.first) new inv.cut inv.few c.in_ok-put_targets.ensures.put)) in
    first-many B s.table.processes ns (i + 1) c.args.event new c.requires.shallow cut (omega (arith, length-map c.put_targets.new.into (at u.table.processes), c.len.ensures))

pub loop-number-preserved : goal.loop-number-preserved
loop-number-preserved g c =
    let s = c.args.states.now.all in
    let l = c.loop-number.states.all in
    let u = c.put_targets.new.states.all in
    let ns = c.args.numbers.now in
    let i = c.loop-number.number-index in
    let n = get_or ns i 0 in
    let x = label.Event c.args.event in
    let B = bodies_of c.args.spec.now.bodies in
    let inv = c.loop-number.invariant in
    let within = below-at (length s.table.processes) ns i 0 c.requires.here c.loop-number-test.true in
    let new = look u.table.processes c.put_targets.new.into in
    record {
      kept = stays-on c.args.states.now c.loop-number.states c.put_targets.new.states inv.kept c.put_targets.ensures.kept;
      here = c.in_ok-put_targets.ensures.here;
      cut = subst (λ (ps : List Proc). CutOf (TargetOf B ps x) most_states new) (sym (look-more s.table.processes ns i 0 c.loop-number-test.true))
          (subst (λ (P : Proc). CutOf (TargetOf B (look s.table.processes (take i ns) ++ P ∷ []) x) most_states new) (at-kept s l inv.kept.all n within)
          (first-put c.args.spec.now l (inv.kept.all.bodies ∙ c.requires.bodies) (look s.table.processes (take i ns)) (at l.table.processes n) x (look l.table.processes c.loop-number.first) new inv.cut inv.few c.in_ok-put_targets.ensures.put));
      few = omega (arith, length-map c.put_targets.new.into (at u.table.processes), c.len.ensures);
    }

pub returns-in_err-put_targets-clause-kept : goal.returns-in_err-put_targets-clause-kept
returns-in_err-put_targets-clause-kept g c = stays-on c.args.states.now c.loop-number.states c.put_targets.new.states c.loop-number.invariant.kept c.put_targets.ensures.kept

pub returns-then-len-gt-MOST_STATES-clause-kept : goal.returns-then-len-gt-MOST_STATES-clause-kept
returns-then-len-gt-MOST_STATES-clause-kept g c = stays-on c.args.states.now c.loop-number.states c.put_targets.new.states c.loop-number.invariant.kept c.put_targets.ensures.kept
