use Rattle.std.proofs.Common.{ℤ, rules, subst, sym, ◌∙◌, FitsSigned, to_z, of_z}
use Rattle.std.specs.Int.{w64}
use Rattle.std.proofs.lemmas.Int.{to_z-of_z}
use Rattle.cspm_values.specs.View.{values}
use Rattle.cspm_values.proofs.Turns.{fails_beyond}
use Rattle.cspm_values.proofs.Ranges.{range_here, wide_here, beyond_here}
use Rattle.cspm_values.proofs.range.range.Goals as goal

pub returns-in_ok-numbers-in-Some : goal.returns-in_ok-numbers-in-Some
returns-in_ok-numbers-in-Some g c =
    let x : ℤ = to_z w64 (of_z w64 c.args.ends.0) in
    let y : ℤ = to_z w64 (of_z w64 c.args.ends.1) in
    let f : FitsSigned w64 c.args.ends.0 = search rules in
    let k : FitsSigned w64 c.args.ends.1 = search rules in
    let gap : FitsSigned w64 c.in-Some.gap = subst (λ (v : ℤ). FitsSigned w64 v) (sym c.in-Some.ensures.1) c.in-Some.ensures.0 in
    range_here x y (to_z w64 (of_z w64 c.in-Some.gap)) c.args.ends.0 c.args.ends.1 (values c.in_ok-numbers-in-Some.field-0.items)
    c.if-last-first.false (to_z-of_z w64 c.in-Some.gap gap ∙ c.in-Some.ensures.1) c.if-gap-gt-MAX_GAP.false c.in_ok-numbers-in-Some.ensures
    (to_z-of_z w64 c.args.ends.0 f) (to_z-of_z w64 c.args.ends.1 k)

pub returns-then-gap-gt-MAX_GAP : goal.returns-then-gap-gt-MAX_GAP
returns-then-gap-gt-MAX_GAP g c =
    let f : FitsSigned w64 c.args.ends.0 = search rules in
    let k : FitsSigned w64 c.args.ends.1 = search rules in
    let gap : FitsSigned w64 c.in-Some.gap = subst (λ (v : ℤ). FitsSigned w64 v) (sym c.in-Some.ensures.1) c.in-Some.ensures.0 in
    fails_beyond c.beyond.result _ _ c.beyond.ensures (wide_here (to_z w64 (of_z w64 c.args.ends.0)) (to_z w64 (of_z w64 c.args.ends.1)) (to_z w64 (of_z w64 c.in-Some.gap)) c.args.ends.0 c.args.ends.1
    c.if-last-first.false (to_z-of_z w64 c.in-Some.gap gap ∙ c.in-Some.ensures.1) c.if-gap-gt-MAX_GAP.true (to_z-of_z w64 c.args.ends.0 f) (to_z-of_z w64 c.args.ends.1 k))

pub returns-in-None : goal.returns-in-None
returns-in-None g c =
    let f : FitsSigned w64 c.args.ends.0 = search rules in
    let k : FitsSigned w64 c.args.ends.1 = search rules in
    fails_beyond c.beyond-in-None.result _ _ c.beyond-in-None.ensures (beyond_here (to_z w64 (of_z w64 c.args.ends.0)) (to_z w64 (of_z w64 c.args.ends.1)) c.args.ends.0 c.args.ends.1
    c.if-last-first.false c.in-None.ensures (to_z-of_z w64 c.args.ends.0 f) (to_z-of_z w64 c.args.ends.1 k))
