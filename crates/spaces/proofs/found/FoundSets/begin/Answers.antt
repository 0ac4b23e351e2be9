use Rattle.std.proofs.Common.{subst, arith}
use Rattle.spaces.specs.Found.{Found, shown}
use Rattle.spaces.specs.Known.{found}
use Rattle.spaces.specs.Spaces.{GrewFrom}
use Rattle.spaces.proofs.Growing.{empty-grew}
use Rattle.spaces.proofs.found.FoundSets.begin.Goals as goal

pub returns-clause-grown : goal.returns-clause-grown
returns-clause-grown g c =
    let es = c.self.inside.sets.entries in
    subst (λ (f : Found). GrewFrom (shown f) (shown (found c.self.inside.spec c.replace.new.dest es))) c.self.view_is
    (empty-grew c.self.inside.spec c.self.inside.states c.replace.new.dest es (omega (arith, c.len.ensures.len, c.if-len-gt0.false)))
