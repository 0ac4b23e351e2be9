use Rattle.std.proofs.Common.{◌≡◌, length, sym, subst}
use Rattle.keeping.specs.Guarding.{Guarding, IsSettled}
use Rattle.keeping.proofs.Finding.{found-standing}
use Rattle.keeping.proofs.guarding.Guarding.into_parts.Goals as goal

pub returns-clause-standing : goal.returns-clause-standing
returns-clause-standing g c =
    let s : Guarding = record { all = c.self.inside.all; guards = c.self.inside.guards.items } in
    found-standing c.args.spec.now s c.bodies-bodies.ensures.closed
    (subst (λ (r : Guarding). r.all.bodies ≡ c.args.spec.now.bodies) (sym c.self.view_is) c.requires.bodies)
    (subst (λ (r : Guarding). length r.guards ≡ length c.args.spec.now.bodies) (sym c.self.view_is) c.requires.count)
    (subst (λ (r : Guarding). IsSettled r) (sym c.self.view_is) c.requires.settled)
    c.self.inside.stands.items c.self.invariant
