use Rattle.std.proofs.Common.{refl}
use Rattle.keeping.specs.Kept.{Keeping}
use Rattle.keeping.proofs.Growing.{keeping-stays}
use Rattle.keeping.proofs.states.States.put_from.Goals as goal

pub invariant_of-self : goal.invariant_of-self
invariant_of-self g c =
    let s : Keeping = record { all = c.self.inside.all; deep = c.self.inside.deep } in
    let r : Keeping = record { all = c.put_from.new.self; deep = c.self.inside.deep } in
    keeping-stays s r (record { all = c.put_from.ensures.kept; deep = refl }) c.self.inside.stands.items c.self.inside.known.items c.self.invariant
