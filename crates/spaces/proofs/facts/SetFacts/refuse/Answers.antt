use Rattle.std.proofs.Common.{◌↔◌, ◌∙◌, IsTrue, List, refl, sym, subst}
use Rattle.alphabet.specs.EventSets.{Set}
use Rattle.spaces.specs.Acceptances.{HasApart}
use Rattle.spaces.proofs.Offering.{refuse-end, refuse-rest}
use Rattle.spaces.proofs.facts.SetFacts.refuse.Goals as goal

pub returns-then-end_outside : goal.returns-then-end_outside
returns-then-end_outside g c = λ ps B k. ((λ _. refuse-end c.args.self.now ps B c.args.set.now k (sym c.end_outside.ensures ∙ c.if-end_outside.true)), (λ _. refl))

pub returns : goal.returns
returns g c =
    λ ps B k.
    refuse-rest c.args.self.now ps B c.args.set.now k c.some_apart.result (sym c.end_outside.ensures ∙ c.if-end_outside.false)
    (subst (λ (l : List Set). IsTrue c.some_apart.result ↔ HasApart l c.args.set.now) c.deref.ensures.value c.some_apart.ensures)
