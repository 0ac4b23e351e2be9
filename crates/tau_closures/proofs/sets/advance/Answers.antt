use Rattle.std.proofs.Common.{◌∷◌, [], ◌++◌, ◌∙◌, sym}
use Rattle.std.proofs.lemmas.Result.{IfOk-weaker, IfErr-weaker}
use Rattle.nodes.specs.Looks.{look}
use Rattle.tau_closures.proofs.ByNames.{plain-belongs, plain-event, plain-event-none, kept-event, kept-event-none, kept-back, next-plain, next-kept}
use Rattle.tau_closures.proofs.sets.advance.Goals as goal

pub plain_advance-requires-clause-set : goal.plain_advance-requires-clause-set
plain_advance-requires-clause-set g c =
    (c.requires.set.0, (plain-belongs c.args.spec.now (sym c.names.ensures ∙ c.in-Steps.is) (look c.args.states.now.all.table.processes c.args.set.now) c.requires.set.0).0 c.requires.set.1)

pub returns-in-Steps-clause-none : goal.returns-in-Steps-clause-none
returns-in-Steps-clause-none g c =
    λ u b. c.plain_advance.ensures.none u ((plain-belongs c.args.spec.now (sym c.names.ensures ∙ c.in-Steps.is) (look c.args.states.now.all.table.processes c.args.set.now) u).0 b)

pub returns-in-Steps-clause-some : goal.returns-in-Steps-clause-some
returns-in-Steps-clause-some g c =
    let s = c.args.spec.now in
    let e = sym c.names.ensures ∙ c.in-Steps.is in
    λ u b. next-plain s e c.plain_advance.new.states.all.table.processes (u ++ c.args.event ∷ []) c.plain_advance.result
    (c.plain_advance.ensures.some u ((plain-belongs s e (look c.args.states.now.all.table.processes c.args.set.now) u).0 b))

pub returns-in-Steps-clause-within : goal.returns-in-Steps-clause-within
returns-in-Steps-clause-within g c =
    let s = c.args.spec.now in
    let e = sym c.names.ensures ∙ c.in-Steps.is in
    λ u b. IfOk-weaker c.plain_advance.result _ _ (λ a k. plain-event-none s e u c.args.event k)
    (c.plain_advance.ensures.within u ((plain-belongs s e (look c.args.states.now.all.table.processes c.args.set.now) u).0 b))

pub returns-in-Steps-clause-limit : goal.returns-in-Steps-clause-limit
returns-in-Steps-clause-limit g c =
    let s = c.args.spec.now in
    let e = sym c.names.ensures ∙ c.in-Steps.is in
    λ u b. IfErr-weaker c.plain_advance.result _ _ (λ f m. plain-event s e u c.args.event f m)
    (c.plain_advance.ensures.limit u ((plain-belongs s e (look c.args.states.now.all.table.processes c.args.set.now) u).0 b))

pub kept_advance-requires-clause-set : goal.kept_advance-requires-clause-set
kept_advance-requires-clause-set g c =
    (c.requires.set.0, kept-back c.args.spec.now c.args.states.now.deep c.requires.deep (look c.args.states.now.all.table.processes c.args.set.now) c.requires.set.0 c.requires.set.1)

pub returns-in-Bodies-clause-none : goal.returns-in-Bodies-clause-none
returns-in-Bodies-clause-none g c =
    λ u b. c.kept_advance.ensures.none u (kept-back c.args.spec.now c.args.states.now.deep c.requires.deep (look c.args.states.now.all.table.processes c.args.set.now) u b)

pub returns-in-Bodies-clause-some : goal.returns-in-Bodies-clause-some
returns-in-Bodies-clause-some g c =
    let s = c.args.spec.now in
    let n = c.args.states.now.deep in
    λ u b. next-kept s n c.requires.deep c.kept_advance.new.states.all.table.processes (u ++ c.args.event ∷ []) c.kept_advance.result
    (c.kept_advance.ensures.some u (kept-back s n c.requires.deep (look c.args.states.now.all.table.processes c.args.set.now) u b))

pub returns-in-Bodies-clause-within : goal.returns-in-Bodies-clause-within
returns-in-Bodies-clause-within g c =
    let s = c.args.spec.now in
    let n = c.args.states.now.deep in
    λ u b. IfOk-weaker c.kept_advance.result _ _ (λ a k. kept-event-none s n c.requires.deep (sym c.names.ensures ∙ c.in-Bodies.is) u c.args.event k)
    (c.kept_advance.ensures.within u (kept-back s n c.requires.deep (look c.args.states.now.all.table.processes c.args.set.now) u b))

pub returns-in-Bodies-clause-limit : goal.returns-in-Bodies-clause-limit
returns-in-Bodies-clause-limit g c =
    let s = c.args.spec.now in
    let n = c.args.states.now.deep in
    λ u b. IfErr-weaker c.kept_advance.result _ _ (λ f m. kept-event s n c.requires.deep (sym c.names.ensures ∙ c.in-Bodies.is) u c.args.event f m)
    (c.kept_advance.ensures.limit u (kept-back s n c.requires.deep (look c.args.states.now.all.table.processes c.args.set.now) u b))
