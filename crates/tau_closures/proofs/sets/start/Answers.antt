use Rattle.std.proofs.Common.{[], ◌∙◌, ℕ, sym, subst}
use Rattle.std.proofs.lemmas.Result.{IfOk-weaker, IfErr-weaker}
use Rattle.nodes.specs.Looks.{look}
use Rattle.tau_closures.specs.KeptBelonging.{KeptBelongs}
use Rattle.tau_closures.proofs.ByNames.{plain-depth, plain-belongs, plain-opening, plain-opening-none, kept-opening, kept-opening-none}
use Rattle.tau_closures.proofs.sets.start.Goals as goal

pub plain_start-requires-clause-deep : goal.plain_start-requires-clause-deep
plain_start-requires-clause-deep g c = c.requires.deep ∙ plain-depth c.args.spec.now (sym c.names.ensures ∙ c.in-Steps.is)

pub returns-in-Steps-clause-belongs : goal.returns-in-Steps-clause-belongs
returns-in-Steps-clause-belongs g c =
    IfOk-weaker c.plain_start.result _ _
    (λ set k. (plain-belongs c.args.spec.now (sym c.names.ensures ∙ c.in-Steps.is) (look c.plain_start.new.states.all.table.processes set.items) []).1 k)
    c.plain_start.ensures.belongs

pub returns-in-Steps-clause-within : goal.returns-in-Steps-clause-within
returns-in-Steps-clause-within g c =
    IfOk-weaker c.plain_start.result _ _ (λ set k. plain-opening-none c.args.spec.now (sym c.names.ensures ∙ c.in-Steps.is) k) c.plain_start.ensures.within

pub returns-in-Steps-clause-limit : goal.returns-in-Steps-clause-limit
returns-in-Steps-clause-limit g c =
    IfErr-weaker c.plain_start.result _ _ (λ f m. plain-opening c.args.spec.now (sym c.names.ensures ∙ c.in-Steps.is) f m) c.plain_start.ensures.limit

pub returns-in-Bodies-clause-belongs : goal.returns-in-Bodies-clause-belongs
returns-in-Bodies-clause-belongs g c =
    IfOk-weaker c.kept_start.result _ _
    (λ set k. subst (λ (n : ℕ). KeptBelongs c.args.spec.now n (look c.kept_start.new.states.all.table.processes set.items) []) c.requires.deep k)
    c.kept_start.ensures.belongs

pub returns-in-Bodies-clause-within : goal.returns-in-Bodies-clause-within
returns-in-Bodies-clause-within g c =
    IfOk-weaker c.kept_start.result _ _
    (λ set k. kept-opening-none c.args.spec.now c.args.states.now.deep c.requires.deep (sym c.names.ensures ∙ c.in-Bodies.is) k)
    c.kept_start.ensures.within

pub returns-in-Bodies-clause-limit : goal.returns-in-Bodies-clause-limit
returns-in-Bodies-clause-limit g c =
    IfErr-weaker c.kept_start.result _ _
    (λ f m. kept-opening c.args.spec.now c.args.states.now.deep c.requires.deep (sym c.names.ensures ∙ c.in-Bodies.is) f m)
    c.kept_start.ensures.limit
