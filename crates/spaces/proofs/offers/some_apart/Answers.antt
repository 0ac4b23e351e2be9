use Rattle.std.proofs.Common.{◌≤◌, ◌∙◌, List, IsTrue, inl, inr, length, refl, sym, subst, true≢false, arith}
use Rattle.std.proofs.lemmas.List.{take_all}
use Rattle.alphabet.specs.EventSets.{Set, member}
use Rattle.alphabet.specs.declared.events.Event.{Event}
use Rattle.spaces.specs.Acceptances.{HasApart}
use Rattle.spaces.proofs.Offering.{set-at, set-more}
use Rattle.spaces.proofs.offers.some_apart.Goals as goal

pub loop-other-init : goal.loop-other-init
loop-other-init c = λ (M, i, p). elim i [ ]

pub returns-then-are_apart : goal.returns-then-are_apart
returns-then-are_apart c =
    let sets = c.args.sets.now in
    let i = c.loop-other.other-index in
    ((λ _. (c.other-item.result, set-at sets i c.other-item.result c.other-item.is c.loop-other-test.true, c.are_apart.ensures.0 c.if-are_apart.true)), (λ _. refl))

pub loop-other-preserved : goal.loop-other-preserved
loop-other-preserved c =
    let sets = c.args.sets.now in
    let i = c.loop-other.other-index in
    λ w.
    elim (set-more sets i c.other-item.result (λ (M : Set). (x : Event) → IsTrue (member M x) → IsTrue (member c.args.set.now x) → ⊥) c.other-item.is c.loop-other-test.true w) [
      | inl v ↦ c.loop-other.invariant v
      | inr p ↦ true≢false (sym (c.are_apart.ensures.1 p) ∙ c.if-are_apart.false)
    ]

pub returns : goal.returns
returns c =
    let sets = c.args.sets.now in
    let i = c.loop-other.other-index in
    let h : length sets ≤ i = omega arith in (
      (λ t. absurd (cc t)),
      (λ w. absurd (c.loop-other.invariant (subst (λ (l : List Set). HasApart l c.args.set.now) (sym (take_all i sets h)) w))),
    )
