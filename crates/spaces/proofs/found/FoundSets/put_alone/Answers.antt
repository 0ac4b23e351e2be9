use Rattle.std.proofs.Common.{◌↔◌, List, ℕ, [], length, get_or, sym, ap, subst}
use Rattle.term.specs.Traces.{In}
use Rattle.tau_closures.specs.Looks.{look}
use Rattle.spaces.specs.Found.{shown}
use Rattle.spaces.specs.Spaces.{states}
use Rattle.spaces.proofs.found.FoundSets.put_alone.Goals as goal

pub returns-clause-one : goal.returns-clause-one
returns-clause-one g c = ap length c.in_ok-put_list.ensures.list

pub returns-clause-same : goal.returns-clause-same
returns-clause-same g c = λ Q.
    subst (λ (ns : List ℕ). In Q (look c.copies.new.into.all.table.processes ns) ↔ In Q (states (shown c.args.self.now) c.args.set))
    (sym (ap (λ l. get_or l 0 []) c.in_ok-put_list.ensures.list)) (c.in_ok-list.ensures.same Q)
