use Rattle.std.proofs.Common.{◌∙◌, sym}
use Rattle.keeping.specs.Guarding.{Guarding}
use Rattle.keeping.proofs.Finding.{found-none}
use Rattle.keeping.proofs.guarding.Guarding.new.Goals as goal

pub invariant_of-result : goal.invariant_of-result
invariant_of-result g c =
    let s : Guarding = record { all = c.put_names.new.all; guards = c.in_ok-guards.guards.items } in
    found-none s c.in-Ok.stands.items (c.in-Ok.ensures.count ∙ sym c.in_ok-guards.ensures.count) c.in-Ok.ensures.names c.in_ok-guards.ensures.none
