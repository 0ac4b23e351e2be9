use Rattle.std.proofs.Common.{◌≡◌, ◌∷◌, [], ◌∙◌, ℕ, List, sym, subst, true≢false}
use Rattle.std.proofs.lemmas.Result.{IfOk-weaker, IfErr-weaker}
use Rattle.term.specs.Traces.{In}
use Rattle.term.specs.Limits.{HasDeep}
use Rattle.term.specs.Proc.{Proc, bodies_of, root}
use Rattle.nodes.specs.Looks.{look}
use Rattle.unfolding.specs.Unfolded.{kept_as}
use Rattle.keeping.proofs.Growing.{stays-on}
use Rattle.tau_closures.specs.declared.fault.AfterFault.{AfterFault}
use Rattle.tau_closures.specs.Closing.{Among}
use Rattle.tau_closures.specs.Kept.{IsKeptClosure}
use Rattle.tau_closures.specs.Limits.{MeetsKeptLimit}
use Rattle.tau_closures.proofs.KeptBelongings.{kept-root-opens, kept-root-deep, kept-start-belongs, kept-start-limit, kept-start-within}
use Rattle.tau_closures.proofs.kept_sets.kept_start.Goals as goal

pub returns-then-any_deep-clause-limit : goal.returns-then-any_deep-clause-limit
returns-then-any_deep-clause-limit g c =
    let s = c.args.states.now in
    let m = c.root_alone.new.states in
    let ps = look m.all.table.processes c.in_ok-first.first in
    let e : ps ≡ kept_as (bodies_of c.args.spec.now.bodies) s.deep root ∷ [] = subst (λ (bs : List Proc). ps ≡ kept_as (bodies_of bs) s.deep root ∷ []) c.requires.bodies c.in_ok-first.ensures.root in
    kept-root-deep c.args.spec.now s.deep ps e (subst (λ (v : List ℕ). HasDeep (λ Q. In Q (look m.all.table.processes v))) c.as_slice.ensures (c.any_deep.ensures.0 c.if-any_deep.true))

pub close_kept-requires-clause-first : goal.close_kept-requires-clause-first
close_kept-requires-clause-first g c =
    let s = c.args.states.now in
    let m = c.root_alone.new.states in
    let ps = look m.all.table.processes c.in_ok-first.first in
    let e : ps ≡ kept_as (bodies_of c.args.spec.now.bodies) s.deep root ∷ [] = subst (λ (bs : List Proc). ps ≡ kept_as (bodies_of bs) s.deep root ∷ []) c.requires.bodies c.in_ok-first.ensures.root in
    kept-root-opens c.args.spec.now c.requires.closed s.deep ps e
    (λ d. true≢false (sym (c.any_deep.ensures.1 (subst (λ (v : List ℕ). HasDeep (λ Q. In Q (look m.all.table.processes v))) (sym c.as_slice.ensures) d)) ∙ c.if-any_deep.false))

pub returns-clause-belongs : goal.returns-clause-belongs
returns-clause-belongs g c =
    let s = c.args.states.now in
    let m = c.root_alone.new.states in
    let u = c.close_kept.new.states in
    let B = bodies_of c.args.spec.now.bodies in
    let ps = look m.all.table.processes c.in_ok-first.first in
    let e : ps ≡ kept_as B s.deep root ∷ [] = subst (λ (bs : List Proc). ps ≡ kept_as (bodies_of bs) s.deep root ∷ []) c.requires.bodies c.in_ok-first.ensures.root in
    IfOk-weaker c.close_kept.result _ _
    (λ set k.
    let ms = look u.all.table.processes set.items in
    kept-start-belongs c.args.spec.now s.deep ms
    (subst (λ (v : List Proc). IsKeptClosure B s.deep (Among v) ⊥ ms) e
    (subst (λ (d : ℕ). IsKeptClosure B d (Among ps) ⊥ ms) c.root_alone.ensures.kept.deep k)))
    c.close_kept.ensures.ok

pub returns-clause-within : goal.returns-clause-within
returns-clause-within g c =
    let s = c.args.states.now in
    let m = c.root_alone.new.states in
    let u = c.close_kept.new.states in
    let B = bodies_of c.args.spec.now.bodies in
    let ps = look m.all.table.processes c.in_ok-first.first in
    let e : ps ≡ kept_as B s.deep root ∷ [] = subst (λ (bs : List Proc). ps ≡ kept_as (bodies_of bs) s.deep root ∷ []) c.requires.bodies c.in_ok-first.ensures.root in
    IfOk-weaker c.close_kept.result _ _
    (λ set k.
    let ms = look u.all.table.processes set.items in
    kept-start-within c.args.spec.now s.deep ms
    (subst (λ (v : List Proc). IsKeptClosure B s.deep (Among v) ⊥ ms) e
    (subst (λ (d : ℕ). IsKeptClosure B d (Among ps) ⊥ ms) c.root_alone.ensures.kept.deep k)))
    c.close_kept.ensures.ok

pub returns-clause-shallow : goal.returns-clause-shallow
returns-clause-shallow g c = IfOk-weaker c.close_kept.result _ _ (λ set k. k.shallow) c.close_kept.ensures.ok

pub returns-clause-limit : goal.returns-clause-limit
returns-clause-limit g c =
    let s = c.args.states.now in
    let m = c.root_alone.new.states in
    let B = bodies_of c.args.spec.now.bodies in
    let ps = look m.all.table.processes c.in_ok-first.first in
    let e : ps ≡ kept_as B s.deep root ∷ [] = subst (λ (bs : List Proc). ps ≡ kept_as (bodies_of bs) s.deep root ∷ []) c.requires.bodies c.in_ok-first.ensures.root in
    IfErr-weaker c.close_kept.result _ _
    (λ (f : AfterFault) k.
    kept-start-limit c.args.spec.now s.deep f
    (subst (λ (v : List Proc). MeetsKeptLimit B s.deep (Among v) ⊥ f) e
    (subst (λ (d : ℕ). MeetsKeptLimit B d (Among ps) ⊥ f) c.root_alone.ensures.kept.deep k)))
    c.close_kept.ensures.err

pub returns-clause-kept : goal.returns-clause-kept
returns-clause-kept g c = stays-on c.args.states.now c.root_alone.new.states c.close_kept.new.states c.root_alone.ensures.kept c.close_kept.ensures.kept
