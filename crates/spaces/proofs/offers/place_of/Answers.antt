use Rattle.std.proofs.Common.{◌≡◌, ◌⊎◌, inl, inr, sym, subst}
use Rattle.std.proofs.lemmas.List.{get_or_read}
use Rattle.alphabet.specs.EventSets.{Set}
use Rattle.spaces.specs.Acceptances.{ComesBefore}
use Rattle.spaces.proofs.Offering.{set-at}
use Rattle.spaces.proofs.Ordering.{taken-more}
use Rattle.spaces.proofs.offers.place_of.Goals as goal

pub returns-then-not-comes_before-clause-place : goal.returns-then-not-comes_before-clause-place
returns-then-not-comes_before-clause-place c =
    λ small all.
    let sets = c.args.sets.now in
    let i = c.loop-place.place in
    let O = c.index-sets-place.result in
    record {
      before = c.loop-place.invariant small all;
      at = λ h.
          subst (λ (N : Set). (N ≡ c.args.set.now) ⊎ ComesBefore c.args.set.now N) (get_or_read sets i O h c.index-sets-place.is c.args.set.now)
          (c.comes_before.ensures.after (all O (set-at sets i O c.index-sets-place.is h)) small c.if-not-comes_before.true);
    }

pub loop-place-preserved : goal.loop-place-preserved
loop-place-preserved c =
    λ small all M j.
    let sets = c.args.sets.now in
    let i = c.loop-place.place in
    let O = c.index-sets-place.result in
    elim ((taken-more sets i O c.index-sets-place.is c.loop-place-test.true M).0 j) [
      | inl k ↦ c.loop-place.invariant small all M k
      | inr e ↦
          subst (λ (N : Set). ComesBefore N c.args.set.now) (sym e)
          (c.comes_before.ensures.before (all O (set-at sets i O c.index-sets-place.is c.loop-place-test.true)) small c.if-not-comes_before.false)
    ]
