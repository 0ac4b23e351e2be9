use Rattle.std.proofs.Common.{◌≡◌, List, sym, ◌∙◌, subst}
use Rattle.alphabet.specs.EventSets.{Set}
use Rattle.spaces.specs.Offers.{AreLeastOf, HasPutOffer}
use Rattle.spaces.proofs.Accepting.{no-end, with-end}
use Rattle.spaces.proofs.facts.SetFacts.least.Goals as goal
use Rattle.spaces.proofs.facts.SetFacts.least.Goals.{then-contains+in_ok-put_offer, else-contains}

pub returns : goal.returns
returns g c =
    let next = c.args.self.now.next in
    let offers = c.args.self.now.offers.items in
    let copied : c.in_ok-sets.sets.items ≡ offers = c.in_ok-sets.ensures.items ∙ c.deref.ensures.value in
    elim c.if-contains.branch [
      | then-contains+in_ok-put_offer w ↦
          let e : c.if-contains.sets.items ≡ w.put_offer.new.into.items = cc in
          subst (λ (l : List Set). AreLeastOf next offers l) (sym e)
          (with-end w.empty.result w.with.result w.empty.ensures w.with.ensures next offers w.put_offer.new.into.items (sym c.contains.ensures ∙ w.if-contains.true)
          (subst (λ (l : List Set). HasPutOffer l w.with.result w.put_offer.new.into.items) copied w.in_ok-put_offer.ensures))
      | else-contains w ↦
          let e : c.if-contains.sets.items ≡ offers = cc in
          no-end next offers c.if-contains.sets.items e (sym c.contains.ensures ∙ w.if-contains.false)
    ]
