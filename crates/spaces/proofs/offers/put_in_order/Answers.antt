use Rattle.std.proofs.Common.{◌≡◌, ◌<◌, ◌≤◌, List, length, get_or, ap, sym, ◌∙◌, subst, arith, eq-eqb, true≢false}
use Rattle.std.proofs.lemmas.Bool.{eqb-true}
use Rattle.std.proofs.lemmas.List.{get_or_read}
use Rattle.alphabet.specs.EventSets.{Set}
use Rattle.spaces.specs.Offers.{AreSmall, HasPutInOrder, IsPlace}
use Rattle.spaces.proofs.Ordering.{put-there, put-new}
use Rattle.spaces.proofs.offers.put_in_order.Goals as goal
use Rattle.spaces.proofs.offers.put_in_order.Goals.{else-place-len-via-then-place-len+else-eq, else-place-len-via-else-place-len}

pub returns-then-eq : goal.returns-then-eq
returns-then-eq g c =
    let old = c.args.into.now.items in
    let i = c.place_of-place.result in
    let h : i < length old = omega (arith, c.if-place-len.true, c.len.ensures, c.args.into.now.ok.0) in
    put-there old i c.args.set h (sym (get_or_read old i c.index.result.now h c.index.ensures c.args.set) ∙ eqb-true c.index.result.now c.args.set (sym c.eq.ensures ∙ c.if-eq.true))

pub returns : goal.returns
returns g c =
    let old = c.args.into.now.items in
    let i = c.place_of-place.result in
    let le : i ≤ length old = omega (arith, c.place_of-place.ensures.within, ap length c.deref.ensures.value) in
    let differs : i < length old → get_or old i c.args.set ≡ c.args.set → ⊥ =
    λ h e.
    elim c.else-place-len.branch [
      | else-place-len-via-then-place-len+else-eq w ↦
          true≢false (sym (eq-eqb w.index.result.now c.args.set (get_or_read old i w.index.result.now h w.index.ensures c.args.set ∙ e)) ∙ (sym w.eq.ensures ∙ w.if-eq.false))
      | else-place-len-via-else-place-len w ↦ absurd (omega (arith, h, w.if-place-len.false, c.len.ensures, c.args.into.now.ok.0))
    ] in
    subst (λ (l : List Set). HasPutInOrder old c.args.set l) (sym c.in_ok-insert.ensures.items)
    (put-new old i c.args.set le
    (λ small all. subst (λ (l : List Set). IsPlace l c.args.set i) c.deref.ensures.value (c.place_of-place.ensures.place small (subst AreSmall (sym c.deref.ensures.value) all))) differs)
