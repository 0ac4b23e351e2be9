use Rattle.std.proofs.Common.{◌≡◌, List, length, subst, sym, refl}
use Rattle.alphabet.specs.declared.events.Event.{Event}
use Rattle.spaces.specs.Limits.{OpeningMeetsNone}
use Rattle.spaces.specs.Spaces.{Belongs}
use Rattle.monitor.proofs.monitor.Monitor.new.Goals as goal

pub invariant_of-result : goal.invariant_of-result
invariant_of-result g c =
    (subst (λ u. Belongs c.start.new.space c.in-Ok.states u) (sym c.new.ensures) c.in-Ok.ensures.belongs, subst (λ (u : List Event). 0 ≡ length u) (sym c.new.ensures) refl)

pub returns-in-Ok-clause-within : goal.returns-in-Ok-clause-within
returns-in-Ok-clause-within g c = subst OpeningMeetsNone c.new-space.ensures.spec c.in-Ok.ensures.within
