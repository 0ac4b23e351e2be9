use Rattle.std.proofs.Common.{◌<◌, ◌≤◌, ◌↔◌, ◌∙◌, inl, inr, IsTrue, List, length, take, get_or, refl, sym, subst, true≢false}
use Rattle.term.specs.Proc.{Proc, bodies_of}
use Rattle.term.specs.Sizes.{depth}
use Rattle.term.specs.Steps.{Hid}
use Rattle.term.specs.Limits.{HasDeep, deepest_state}
use Rattle.targets.specs.declared.labels.Label.TheVariants as label
use Rattle.nodes.specs.Shapes.{at}
use Rattle.nodes.specs.Looks.{look}
use Rattle.nodes.proofs.Looking.{below-at}
use Rattle.keeping.specs.Kept.{Keeping}
use Rattle.tau_closures.specs.Closing.{TargetOf}
use Rattle.tau_closures.proofs.Expanding.{target-less}
use Rattle.tau_closures.proofs.NumberPutting.{look-more}
use Rattle.tau_closures.proofs.NumberLevels.{In-look}
use Rattle.tau_closures.proofs.closing.any_deep_target.Goals as goal

pub has_deep_target-requires-clause-number : goal.has_deep_target-requires-clause-number
has_deep_target-requires-clause-number g c =
    let n = get_or c.args.numbers.now c.loop-number.number-index 0 in
    subst (λ (a : Keeping). n < length a.all.table.processes) (sym c.loop-number.invariant.same)
    (below-at (length c.args.states.now.all.table.processes) c.args.numbers.now c.loop-number.number-index 0 c.requires.here c.loop-number-test.true)

pub has_deep_target-requires-clause-shallow : goal.has_deep_target-requires-clause-shallow
has_deep_target-requires-clause-shallow g c =
    let ps = c.args.states.now.all.table.processes in
    let n = get_or c.args.numbers.now c.loop-number.number-index 0 in
    subst (λ (a : Keeping). depth (at a.all.table.processes n) ≤ deepest_state) (sym c.loop-number.invariant.same)
    (c.requires.shallow (at ps n) (In-look ps c.args.numbers.now c.loop-number.number-index c.loop-number-test.true))

pub returns-then-branch-clause-deep : goal.returns-then-branch-clause-deep
returns-then-branch-clause-deep g c =
    let ps = c.args.states.now.all.table.processes in
    let i = c.loop-number.number-index in
    let n = get_or c.args.numbers.now i 0 in
    let (Q, d, l) = subst (λ (a : Keeping). HasDeep (Hid (bodies_of a.all.bodies) (at a.all.table.processes n))) c.loop-number.invariant.same (c.in_ok-has_deep_target.ensures.deep.0 c.if-branch.true) in
    ((λ _. (Q, (at ps n, In-look ps c.args.numbers.now i c.loop-number-test.true, d), l)), (λ _. refl))

pub loop-number-preserved : goal.loop-number-preserved
loop-number-preserved g c =
    let ps = c.args.states.now.all.table.processes in
    let B = bodies_of c.args.states.now.all.bodies in
    let ns = c.args.numbers.now in
    let i = c.loop-number.number-index in
    let n = get_or ns i 0 in
    let found = c.in_ok-has_deep_target.field-0 in
    let deep = subst (λ (a : Keeping). IsTrue found ↔ HasDeep (Hid (bodies_of a.all.bodies) (at a.all.table.processes n))) c.loop-number.invariant.same c.in_ok-has_deep_target.ensures.deep in
    record {
      same = c.has_deep_target.ensures.same ∙ c.loop-number.invariant.same;
      none = λ (Q, t, l). elim (target-less B (look ps (take i ns)) (at ps n) label.Tau Q (subst (λ (x : List Proc). TargetOf B x label.Tau Q) (look-more ps ns i 0 c.loop-number-test.true) t)) [
        | inl s ↦ c.loop-number.invariant.none (Q, s, l)
        | inr d ↦ true≢false (sym (deep.1 (Q, d, l)) ∙ c.if-branch.false)
      ];
    }
