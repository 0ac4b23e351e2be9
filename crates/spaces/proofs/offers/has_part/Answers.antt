use Rattle.std.proofs.Common.{◌≤◌, ◌∙◌, List, inl, inr, length, refl, sym, subst, true≢false, arith}
use Rattle.std.proofs.lemmas.List.{take_all}
use Rattle.alphabet.specs.EventSets.{Set}
use Rattle.spaces.specs.Acceptances.{IsPart}
use Rattle.spaces.specs.Offers.{HasPart}
use Rattle.spaces.proofs.Offering.{set-at, set-more}
use Rattle.spaces.proofs.offers.has_part.Goals as goal

pub loop-other-init : goal.loop-other-init
loop-other-init c = λ (M, i, p). elim i [ ]

pub returns-then-is_within : goal.returns-then-is_within
returns-then-is_within c =
    let sets = c.args.sets.now in
    let i = c.loop-other.other-index in
    ((λ _. (c.other-item.result, set-at sets i c.other-item.result c.other-item.is c.loop-other-test.true, c.is_within.ensures.0 c.if-is_within.true)), (λ _. refl))

pub loop-other-preserved : goal.loop-other-preserved
loop-other-preserved c =
    let sets = c.args.sets.now in
    let i = c.loop-other.other-index in
    λ w.
    elim (set-more sets i c.other-item.result (λ (M : Set). IsPart M c.args.set.now) c.other-item.is c.loop-other-test.true w) [
      | inl v ↦ c.loop-other.invariant v
      | inr p ↦ true≢false (sym (c.is_within.ensures.1 p) ∙ c.if-is_within.false)
    ]

pub returns : goal.returns
returns c =
    let sets = c.args.sets.now in
    let i = c.loop-other.other-index in
    let h : length sets ≤ i = omega arith in (
      (λ t. absurd (cc t)),
      (λ w. absurd (c.loop-other.invariant (subst (λ (l : List Set). HasPart l c.args.set.now) (sym (take_all i sets h)) w))),
    )
