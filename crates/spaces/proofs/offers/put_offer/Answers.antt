use Rattle.std.proofs.Common.{List, sym, subst, ◌∙◌, true≢false}
use Rattle.alphabet.specs.EventSets.{Set}
use Rattle.spaces.specs.Offers.{HasPart, HasPutOffer}
use Rattle.spaces.proofs.Offering.{put-part, put-last}
use Rattle.spaces.proofs.offers.put_offer.Goals as goal

pub returns-then-has_part : goal.returns-then-has_part
returns-then-has_part g c =
    put-part c.args.into.now.items c.args.offer (subst (λ (l : List Set). HasPart l c.args.offer) c.deref.ensures.value (c.has_part.ensures.0 c.if-has_part.true))

pub returns : goal.returns
returns g c =
    subst (λ (l : List Set). HasPutOffer c.args.into.now.items c.args.offer l) (sym c.in_ok-push.ensures.items)
    (put-last c.args.into.now.items c.take_out.new.from.items c.args.offer c.take_out.ensures.only c.take_out.ensures.kept c.take_out.ensures.out
    (λ h. true≢false (sym (c.has_part.ensures.1 (subst (λ (l : List Set). HasPart l c.args.offer) (sym c.deref.ensures.value) h)) ∙ c.if-has_part.false)))
