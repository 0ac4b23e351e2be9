use Rattle.std.proofs.Common.{◌≡◌, ◌∷◌, [], List, subst}
use Rattle.std.proofs.lemmas.Result.{IfOk-weaker, IfErr-weaker}
use Rattle.term.specs.Proc.{Proc, bodies_of, root}
use Rattle.nodes.specs.Looks.{look}
use Rattle.keeping.proofs.Growing.{stays-on}
use Rattle.tau_closures.specs.declared.fault.AfterFault.{AfterFault}
use Rattle.tau_closures.specs.Belonging.{MeetsLimit}
use Rattle.tau_closures.specs.Closing.{Among, IsClosure}
use Rattle.tau_closures.proofs.Advances.{root-opens}
use Rattle.tau_closures.proofs.Belongings.{start-belongs, start-limit, start-within}
use Rattle.tau_closures.proofs.ByNames.{root-plain}
use Rattle.tau_closures.proofs.plain_sets.plain_start.Goals as goal

pub close-requires-clause-first : goal.close-requires-clause-first
close-requires-clause-first g c =
    let ps = look c.root_alone.new.states.all.table.processes c.in_ok-first.first in
    root-opens c.args.spec.now c.requires.closed ps (root-plain c.args.states.now ps c.requires.deep c.in_ok-first.ensures.root)

pub returns-clause-shallow : goal.returns-clause-shallow
returns-clause-shallow g c = IfOk-weaker c.close.result _ _ (λ set k. k.shallow) c.close.ensures.ok

pub returns-clause-belongs : goal.returns-clause-belongs
returns-clause-belongs g c =
    let ps = look c.root_alone.new.states.all.table.processes c.in_ok-first.first in
    let us = c.close.new.states.all.table.processes in
    let e : ps ≡ root ∷ [] = root-plain c.args.states.now ps c.requires.deep c.in_ok-first.ensures.root in
    IfOk-weaker c.close.result _ _
    (λ set k. start-belongs c.args.spec.now (look us set.items) (subst (λ (l : List Proc). IsClosure (bodies_of c.args.spec.now.bodies) (Among l) (look us set.items)) e k))
    c.close.ensures.ok

pub returns-clause-within : goal.returns-clause-within
returns-clause-within g c =
    let ps = look c.root_alone.new.states.all.table.processes c.in_ok-first.first in
    let us = c.close.new.states.all.table.processes in
    let e : ps ≡ root ∷ [] = root-plain c.args.states.now ps c.requires.deep c.in_ok-first.ensures.root in
    IfOk-weaker c.close.result _ _
    (λ set k. start-within c.args.spec.now (look us set.items) (subst (λ (l : List Proc). IsClosure (bodies_of c.args.spec.now.bodies) (Among l) (look us set.items)) e k))
    c.close.ensures.ok

pub returns-clause-limit : goal.returns-clause-limit
returns-clause-limit g c =
    let ps = look c.root_alone.new.states.all.table.processes c.in_ok-first.first in
    let e : ps ≡ root ∷ [] = root-plain c.args.states.now ps c.requires.deep c.in_ok-first.ensures.root in
    IfErr-weaker c.close.result _ _
    (λ (f : AfterFault) m. start-limit c.args.spec.now f (subst (λ (l : List Proc). MeetsLimit (bodies_of c.args.spec.now.bodies) (Among l) f) e m))
    c.close.ensures.err

pub returns-clause-kept : goal.returns-clause-kept
returns-clause-kept g c = stays-on c.args.states.now c.root_alone.new.states c.close.new.states c.root_alone.ensures.kept c.close.ensures.kept
