use Rattle.std.proofs.Common.{ℕ, subst}
use Rattle.term.specs.Proc.{bodies_of}
use Rattle.nodes.specs.Looks.{look}
use Rattle.keeping.proofs.Growing.{stays-on}
use Rattle.tau_closures.specs.Closing.{Among}
use Rattle.tau_closures.specs.Kept.{IsKeptClosure}
use Rattle.tau_closures.specs.Limits.{MeetsKeptLimit}
use Rattle.tau_closures.proofs.KeptBelongings.{kept-set-lies, kept-first-opens, kept-advance-limit, kept-advance-belongs, kept-advance-within, kept-closing-limit, kept-none, kept-none-within, kept-some, empty-look, some-look}
use Rattle.tau_closures.proofs.kept_sets.kept_advance.Goals as goal

pub first_kept-requires-clause-lies : goal.first_kept-requires-clause-lies
first_kept-requires-clause-lies g c =
    let s = c.args.states.now in
    kept-set-lies c.args.spec.now c.requires.closed s.deep c.requires.set.0 (look s.all.table.processes c.args.set.now) c.requires.set.1

pub returns-in-Err-clause-limit : goal.returns-in-Err-clause-limit
returns-in-Err-clause-limit g c =
    let s = c.args.states.now in
    λ u b. kept-advance-limit c.args.spec.now s.deep u (look s.all.table.processes c.args.set.now) b c.args.event c.in-Err.fault c.in-Err.ensures.err

pub returns-then-is_empty-clause-none : goal.returns-then-is_empty-clause-none
returns-then-is_empty-clause-none g c =
    let s = c.args.states.now in
    let m = c.first_kept.new.states in
    λ u b. kept-none c.args.spec.now s.deep u (look s.all.table.processes c.args.set.now) b c.args.event (look m.all.table.processes c.in-Ok.first) c.in-Ok.ensures.all
    (empty-look m.all.table.processes c.in-Ok.first c.is_empty.result c.is_empty.ensures c.if-is_empty.true)

pub returns-then-is_empty-clause-within : goal.returns-then-is_empty-clause-within
returns-then-is_empty-clause-within g c =
    let s = c.args.states.now in
    let m = c.first_kept.new.states in
    λ u b. kept-none-within c.args.spec.now s.deep u (look s.all.table.processes c.args.set.now) b c.args.event (look m.all.table.processes c.in-Ok.first) c.in-Ok.ensures.all
    (empty-look m.all.table.processes c.in-Ok.first c.is_empty.result c.is_empty.ensures c.if-is_empty.true)

pub close_kept-requires-clause-first : goal.close_kept-requires-clause-first
close_kept-requires-clause-first g c =
    let s = c.args.states.now in
    let m = c.first_kept.new.states in
    let qs = look s.all.table.processes c.args.set.now in
    kept-first-opens c.args.spec.now c.requires.closed s.deep qs c.args.event (look m.all.table.processes c.in-Ok.first)
    (kept-set-lies c.args.spec.now c.requires.closed s.deep c.requires.set.0 qs c.requires.set.1) c.in-Ok.ensures.all

pub returns-in-Ok-close_kept-clause-some : goal.returns-in-Ok-close_kept-clause-some
returns-in-Ok-close_kept-clause-some g c =
    let s = c.args.states.now in
    let m = c.first_kept.new.states in
    let w = c.close_kept.new.states in
    let B = bodies_of c.args.spec.now.bodies in
    let qs = look s.all.table.processes c.args.set.now in
    let ps = look m.all.table.processes c.in-Ok.first in
    let ms = look w.all.table.processes c.in-Ok-close_kept.next.items in
    let closure = subst (λ (d : ℕ). IsKeptClosure B d (Among ps) ⊥ ms) c.first_kept.ensures.kept.deep c.in-Ok-close_kept.ensures.ok in
    let (Q, i) = some-look m.all.table.processes c.in-Ok.first c.is_empty.result c.is_empty.ensures c.if-is_empty.false in
    λ u b. (
      kept-some c.args.spec.now s.deep u qs b c.args.event ps c.in-Ok.ensures.all Q i,
      kept-advance-belongs c.args.spec.now s.deep u qs b c.args.event ps ms c.in-Ok.ensures.all closure,
    )

pub returns-in-Ok-close_kept-clause-within : goal.returns-in-Ok-close_kept-clause-within
returns-in-Ok-close_kept-clause-within g c =
    let s = c.args.states.now in
    let m = c.first_kept.new.states in
    let w = c.close_kept.new.states in
    let B = bodies_of c.args.spec.now.bodies in
    let qs = look s.all.table.processes c.args.set.now in
    let ps = look m.all.table.processes c.in-Ok.first in
    let ms = look w.all.table.processes c.in-Ok-close_kept.next.items in
    let closure = subst (λ (d : ℕ). IsKeptClosure B d (Among ps) ⊥ ms) c.first_kept.ensures.kept.deep c.in-Ok-close_kept.ensures.ok in
    λ u b. kept-advance-within c.args.spec.now s.deep u qs b c.args.event ps ms c.in-Ok.ensures.all closure

pub returns-in-Ok-close_kept-clause-shallow : goal.returns-in-Ok-close_kept-clause-shallow
returns-in-Ok-close_kept-clause-shallow g c = c.in-Ok-close_kept.ensures.ok.shallow

pub returns-in-Ok-close_kept-clause-kept : goal.returns-in-Ok-close_kept-clause-kept
returns-in-Ok-close_kept-clause-kept g c = stays-on c.args.states.now c.first_kept.new.states c.close_kept.new.states c.first_kept.ensures.kept c.close_kept.ensures.kept

pub returns-in-Err-close_kept-clause-limit : goal.returns-in-Err-close_kept-clause-limit
returns-in-Err-close_kept-clause-limit g c =
    let s = c.args.states.now in
    let m = c.first_kept.new.states in
    let B = bodies_of c.args.spec.now.bodies in
    let qs = look s.all.table.processes c.args.set.now in
    let ps = look m.all.table.processes c.in-Ok.first in
    let f = c.in-Err-close_kept.fault in
    let limit = subst (λ (d : ℕ). MeetsKeptLimit B d (Among ps) ⊥ f) c.first_kept.ensures.kept.deep c.in-Err-close_kept.ensures.err in
    λ u b. kept-closing-limit c.args.spec.now s.deep u qs b c.args.event ps c.in-Ok.ensures.all f limit

pub returns-in-Err-close_kept-clause-kept : goal.returns-in-Err-close_kept-clause-kept
returns-in-Err-close_kept-clause-kept g c = stays-on c.args.states.now c.first_kept.new.states c.close_kept.new.states c.first_kept.ensures.kept c.close_kept.ensures.kept
