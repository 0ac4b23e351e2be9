use Rattle.std.proofs.Common.{[], ◌∙◌, sym, subst}
use Rattle.term.specs.Specs.{Specified}
use Rattle.tau_closures.specs.KeptBelonging.{KeptBelongs}
use Rattle.tau_closures.specs.Limits.{OpeningMeets, OpeningMeetsNone}
use Rattle.tau_closures.specs.Looks.{look}
use Rattle.tau_closures.specs.Unfolding.{unfolding_depth}
use Rattle.spaces.specs.Found.{shown}
use Rattle.spaces.proofs.Answering.{members-belong}
use Rattle.spaces.proofs.Growing.{grew-on}
use Rattle.spaces.proofs.found.FoundSets.opening.Goals as goal

pub returns-in-Err-clause-limit : goal.returns-in-Err-clause-limit
returns-in-Err-clause-limit g c = subst (λ (p : Specified). OpeningMeets p c.in-Err.fault) c.begin.ensures.grown.spec c.in-Err.ensures.limit

pub returns-in-Err-clause-grown : goal.returns-in-Err-clause-grown
returns-in-Err-clause-grown g c = grew-on (shown c.args.self.now) (shown c.begin.new.self) (shown c.first_states.new.self) c.begin.ensures.grown c.first_states.ensures.grown

pub returns-in_err-set-clause-grown : goal.returns-in_err-set-clause-grown
returns-in_err-set-clause-grown g c =
    grew-on (shown c.args.self.now) (shown c.begin.new.self) (shown c.put.new.self) c.begin.ensures.grown
    (grew-on (shown c.begin.new.self) (shown c.first_states.new.self) (shown c.put.new.self) c.first_states.ensures.grown c.put.ensures.grown)

pub returns-clause-set : goal.returns-clause-set
returns-clause-set g c =
    let ps = look c.first_states.new.self.table.processes c.in-Ok.first.items in
    let t = shown c.put.new.self in
    members-belong t ps c.in_ok-set.set [] c.in_ok-set.ensures.set
    (subst (λ (p : Specified). KeptBelongs p (unfolding_depth p) ps []) (sym (c.put.ensures.grown.spec ∙ c.first_states.ensures.grown.spec)) c.in-Ok.ensures.belongs)

pub returns-clause-within : goal.returns-clause-within
returns-clause-within g c = subst (λ (p : Specified). OpeningMeetsNone p) c.begin.ensures.grown.spec c.in-Ok.ensures.within

pub returns-clause-grown : goal.returns-clause-grown
returns-clause-grown g c =
    grew-on (shown c.args.self.now) (shown c.begin.new.self) (shown c.put.new.self) c.begin.ensures.grown
    (grew-on (shown c.begin.new.self) (shown c.first_states.new.self) (shown c.put.new.self) c.first_states.ensures.grown c.put.ensures.grown)
