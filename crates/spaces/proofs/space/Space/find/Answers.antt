use Rattle.std.proofs.Common.{IfErr, sym, subst}
use Rattle.tau_closures.specs.Limits.{EventMeets}
use Rattle.spaces.specs.Found.{shown}
use Rattle.spaces.specs.Spaces.{Spaced, Belongs}
use Rattle.spaces.proofs.Growing.{memory-on}
use Rattle.spaces.proofs.space.Space.find.Goals as goal

pub invariant_of-self : goal.invariant_of-self
invariant_of-self g c = memory-on (shown c.self.inside.found) (shown c.find.new.self) c.find.ensures.grown c.self.inside.answers.entries c.self.invariant

pub returns-clause-limit : goal.returns-clause-limit
returns-clause-limit g c = λ u b.
    subst (λ (s : Spaced). IfErr c.find.result (EventMeets s.spec u c.args.event)) c.self.view_is
    (c.find.ensures.limit u (subst (λ (s : Spaced). Belongs s c.args.set u) (sym c.self.view_is) b))
