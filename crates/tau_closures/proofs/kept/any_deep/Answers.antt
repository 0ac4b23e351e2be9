use Rattle.std.proofs.Common.{◌<◌, ◌∙◌, List, [], ◌∷◌, inl, inr, length, take, get_or, refl, sym, subst, true≢false}
use Rattle.term.specs.Traces.{In}
use Rattle.term.specs.Proc.{Proc}
use Rattle.term.specs.Sizes.{depth}
use Rattle.term.specs.Limits.{deepest_state}
use Rattle.targets.proofs.Members.{append-In}
use Rattle.targets.proofs.Cutting.{only as one-In}
use Rattle.nodes.specs.Shapes.{at}
use Rattle.nodes.specs.Looks.{look}
use Rattle.nodes.proofs.Looking.{below-at}
use Rattle.tau_closures.proofs.NumberPutting.{look-more}
use Rattle.tau_closures.proofs.NumberLevels.{In-look}
use Rattle.tau_closures.proofs.kept.any_deep.Goals as goal

pub is_deep-requires : goal.is_deep-requires
is_deep-requires g c =
    below-at (length c.args.states.now.all.table.processes) c.args.numbers.now c.loop-number.number-index 0 c.requires.here c.loop-number-test.true

pub returns-then-is_deep : goal.returns-then-is_deep
returns-then-is_deep g c =
    let ps = c.args.states.now.all.table.processes in
    let i = c.loop-number.number-index in
    let n = get_or c.args.numbers.now i 0 in
    ((λ _. (at ps n, In-look ps c.args.numbers.now i c.loop-number-test.true, c.is_deep.ensures.0 c.if-is_deep.true)), (λ _. refl))

pub loop-number-preserved : goal.loop-number-preserved
loop-number-preserved g c =
    let ps = c.args.states.now.all.table.processes in
    let ns = c.args.numbers.now in
    let i = c.loop-number.number-index in
    let P = at ps (get_or ns i 0) in
    λ (Q, j, l). elim (append-In (look ps (take i ns)) (P ∷ []) Q (subst (λ (x : List Proc). In Q x) (look-more ps ns i 0 c.loop-number-test.true) j)) [
      | inl k ↦ c.loop-number.invariant (Q, k, l)
      | inr k ↦ true≢false (sym (c.is_deep.ensures.1 (subst (λ (R : Proc). deepest_state < depth R) (one-In k refl) l)) ∙ c.if-is_deep.false)
    ]
