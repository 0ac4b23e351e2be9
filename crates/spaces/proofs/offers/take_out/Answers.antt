use Rattle.std.proofs.Common.{◌≡◌, ◌+◌, ◌<◌, ◌∷◌, ◌∙◌, List, inl, inr, length, get_or, sym, subst, arith, true≢false}
use Rattle.std.specs.Prelude.{IsPermutation, swap_remove}
use Rattle.std.proofs.lemmas.Bool.{cases_eq}
use Rattle.std.proofs.lemmas.List.{get_or_read}
use Rattle.std.proofs.lemmas.List.Sorted.{IsPermutation-swap_remove}
use Rattle.alphabet.specs.EventSets.{Set}
use Rattle.term.specs.Traces.{In}
use Rattle.spaces.specs.Acceptances.{IsPart}
use Rattle.spaces.proofs.Members.{In-contains}
use Rattle.spaces.proofs.Offering.{taken-only, taken-kept}
use Rattle.spaces.proofs.offers.take_out.Goals as goal

pub loop-place-init : goal.loop-place-init
loop-place-init g c = record { only = λ O i. i; kept = λ O i. inl i; out = λ k d h. absurd (omega arith) }

pub loop-place-preserved-then-is_within : goal.loop-place-preserved-then-is_within
loop-place-preserved-then-is_within g c =
    let xs = c.loop-place.from.items in
    let i = c.loop-place.place in
    let x = c.swap_remove.result in
    let h : i < length xs = omega (arith, c.len.ensures, c.loop-place-test.true, c.loop-place.from.ok.0) in
    let is : x ≡ get_or xs i x = c.swap_remove.ensures.value in
    let same : c.index.result.now ≡ x = get_or_read xs i c.index.result.now h c.index.ensures x ∙ sym {A = Set} is in
    let part : IsPart c.args.set.now x = subst (λ (O : Set). IsPart c.args.set.now O) same (c.is_within.ensures.0 c.if-is_within.true) in
    let p : IsPermutation xs (x ∷ swap_remove xs i x) = IsPermutation-swap_remove xs i x h is in
    record {
      only = λ O j. c.loop-place.invariant.only O (taken-only xs i x p O (subst (λ (l : List Set). In O l) c.swap_remove.ensures.items j));
      kept = λ O j.
          elim (c.loop-place.invariant.kept O j) [
            | inl k ↦ elim (taken-kept xs i x p O k) [
              | inl m ↦ inl (subst (λ (l : List Set). In O l) (sym c.swap_remove.ensures.items) m)
              | inr e ↦ inr (subst (λ (M : Set). IsPart c.args.set.now M) (sym {A = Set} e) part)
            ]
            | inr q ↦ inr q
          ];
      out = λ k d l part'.
          let far : k + 1 < length xs = omega (arith, l, h) in
          c.loop-place.invariant.out k d l (subst (λ (M : Set). IsPart c.args.set.now M) (c.swap_remove.ensures.by_index.1 k d (omega (arith, l)) (omega (arith, far, c.len.ensures, c.loop-place.from.ok.0))) part');
    }

pub loop-place-preserved : goal.loop-place-preserved
loop-place-preserved g c =
    let xs = c.loop-place.from.items in
    let i = c.loop-place.place in
    let h : i < length xs = omega (arith, c.len.ensures, c.loop-place-test.true, c.loop-place.from.ok.0) in
    record {
      only = c.loop-place.invariant.only;
      kept = c.loop-place.invariant.kept;
      out = λ k d l part.
          elim (cases_eq k i) [
            | inl e ↦
                let same : c.index.result.now ≡ get_or xs k d = rw e (get_or_read xs i c.index.result.now h c.index.ensures d) in
                true≢false (sym (c.is_within.ensures.1 (subst (λ (M : Set). IsPart c.args.set.now M) (sym same) part)) ∙ c.if-is_within.false)
            | inr e ↦ c.loop-place.invariant.out k d (omega (arith, l, e)) part
          ];
    }

pub returns-clause-out : goal.returns-clause-out
returns-clause-out g c =
    λ O j part.
    let (k, l, e) = In-contains j in
    c.loop-place.invariant.out k O (omega (arith, l, c.len.ensures, c.loop-place-test.false, c.loop-place.from.ok.0)) (subst (λ (M : Set). IsPart c.args.set.now M) (sym e) part)
