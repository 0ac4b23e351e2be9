use Rattle.std.proofs.Common.{refl}
use Rattle.keeping.specs.Guarding.{Guarding}
use Rattle.keeping.proofs.Finding.{found-stays}
use Rattle.keeping.proofs.guarding.Guarding.put.Goals as goal

pub invariant_of-self : goal.invariant_of-self
invariant_of-self g c =
    let s : Guarding = record { all = c.self.inside.all; guards = c.self.inside.guards.items } in
    let r : Guarding = record { all = c.put.new.self; guards = c.self.inside.guards.items } in
    found-stays s r c.self.inside.stands.items (record { all = c.put.ensures.kept; guards = refl }) c.self.invariant
