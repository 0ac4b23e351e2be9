use Rattle.std.proofs.Common.{◌↔◌, List, sym, subst}
use Rattle.tau_closures.proofs.Asking.{if-both}
use Rattle.alphabet.specs.EventSets.{Set}
use Rattle.term.specs.Traces.{In}
use Rattle.spaces.specs.Offers.{AreSmall}
use Rattle.spaces.proofs.Accepting.{in-any-order}
use Rattle.spaces.proofs.facts.SetFacts.acceptances.Goals as goal

pub returns : goal.returns
returns g c =
    let next = c.args.self.now.next in
    let offers = c.args.self.now.offers.items in
    let least = c.in_ok-least.least.items in
    if-both c.in_order.result _ _ _ c.in_order.ensures.same c.in_order.ensures.ordered
    (λ ordered same order. (
      in-any-order next offers ordered.items least c.in_ok-least.ensures (subst (λ (l : List Set). (M : Set) → In M ordered.items ↔ In M l) c.deref.ensures.value same),
      (λ s. order (subst AreSmall (sym c.deref.ensures.value) (c.in_ok-least.ensures.small s))),
    ))
