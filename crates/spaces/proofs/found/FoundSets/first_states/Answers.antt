use Rattle.std.proofs.Common.{IfErr, IfOk, OnOk, [], sym, subst}
use Rattle.tau_closures.specs.KeptBelonging.{KeptBelongs}
use Rattle.tau_closures.specs.Limits.{OpeningMeets, OpeningMeetsNone}
use Rattle.tau_closures.specs.Looks.{look}
use Rattle.tau_closures.specs.Unfolding.{unfolding_depth}
use Rattle.spaces.specs.Found.{Found, HasBegun, shown}
use Rattle.spaces.specs.Known.{found}
use Rattle.spaces.specs.Spaces.{GrewFrom}
use Rattle.spaces.proofs.Growing.{areof-on, sound-on, table-grew}
use Rattle.spaces.proofs.found.FoundSets.first_states.Goals as goal

pub start-requires-clause-closed : goal.start-requires-clause-closed
start-requires-clause-closed g c = c.self.invariant.closed

pub start-requires-clause-bodies : goal.start-requires-clause-bodies
start-requires-clause-bodies g c = (subst (λ (f : Found). HasBegun f) (sym c.self.view_is) c.requires).0

pub start-requires-clause-deep : goal.start-requires-clause-deep
start-requires-clause-deep g c = (subst (λ (f : Found). HasBegun f) (sym c.self.view_is) c.requires).1

pub invariant_of-self : goal.invariant_of-self
invariant_of-self g c = sound-on c.self.inside.spec c.self.inside.sets.entries c.self.inside.states c.start.new.states c.self.invariant c.start.ensures.kept

pub returns-clause-begun : goal.returns-clause-begun
returns-clause-begun g c = areof-on c.self.inside.spec c.self.inside.states c.start.new.states c.start.ensures.kept (subst (λ (f : Found). HasBegun f) (sym c.self.view_is) c.requires)

pub returns-clause-belongs : goal.returns-clause-belongs
returns-clause-belongs g c =
    subst (λ (f : Found). IfOk c.start.result (λ list. KeptBelongs f.spec (unfolding_depth f.spec) (look c.start.new.states.all.table.processes list.items) [])) c.self.view_is c.start.ensures.belongs

pub returns-clause-within : goal.returns-clause-within
returns-clause-within g c = subst (λ (f : Found). OnOk c.start.result (OpeningMeetsNone f.spec)) c.self.view_is c.start.ensures.within

pub returns-clause-limit : goal.returns-clause-limit
returns-clause-limit g c = subst (λ (f : Found). IfErr c.start.result (OpeningMeets f.spec)) c.self.view_is c.start.ensures.limit

pub returns-clause-grown : goal.returns-clause-grown
returns-clause-grown g c =
    subst (λ (f : Found). GrewFrom (shown f) (shown (found c.self.inside.spec c.start.new.states c.self.inside.sets.entries))) c.self.view_is
    (table-grew c.self.inside.spec c.self.inside.states c.start.new.states c.self.inside.sets.entries c.self.invariant.stored c.start.ensures.kept)
