use Rattle.std.proofs.Common.{IfErr, OnOk, subst}
use Rattle.tau_closures.specs.Limits.{OpeningMeets, OpeningMeetsNone}
use Rattle.spaces.specs.Found.{shown}
use Rattle.spaces.specs.Spaces.{Spaced}
use Rattle.spaces.proofs.Growing.{memory-on}
use Rattle.spaces.proofs.space.Space.opening.Goals as goal

pub invariant_of-self : goal.invariant_of-self
invariant_of-self g c = memory-on (shown c.self.inside.found) (shown c.opening.new.self) c.opening.ensures.grown c.self.inside.answers.entries c.self.invariant

pub returns-clause-within : goal.returns-clause-within
returns-clause-within g c = subst (λ (s : Spaced). OnOk c.opening.result (OpeningMeetsNone s.spec)) c.self.view_is c.opening.ensures.within

pub returns-clause-limit : goal.returns-clause-limit
returns-clause-limit g c = subst (λ (s : Spaced). IfErr c.opening.result (OpeningMeets s.spec)) c.self.view_is c.opening.ensures.limit
