use Rattle.std.proofs.Common.{◌≡◌, ◌≤◌, ℕ, List, length, map, sym, subst, arith}
use Rattle.term.specs.Limits.{most_states}
use Rattle.term.specs.Proc.{bodies_of}
use Rattle.nodes.specs.Looks.{look, AllBelow}
use Rattle.nodes.proofs.Looking.{below-grown}
use Rattle.transitions.specs.Numbered.{Numbered}
use Rattle.unfolding.specs.Unfolded.{kept_as}
use Rattle.keeping.proofs.Growing.{stays-on}
use Rattle.tau_closures.specs.Closing.{HasPut}
use Rattle.tau_closures.proofs.KeptPutting.{narrow-here, put-here}
use Rattle.tau_closures.proofs.kept.put_kept.Goals as goal

pub put_all-requires-clause-here : goal.put_all-requires-clause-here
put_all-requires-clause-here g c =
    let s = c.args.states.now in
    let w = c.is_broad.new.states in
    let m = c.put_targets.new.self in
    let u = c.keep_all.new.self in
    subst (λ (a : Numbered). AllBelow (length a.table.processes) c.args.into.now) (sym c.all.ensures)
    (below-grown m.all.table u.all.table c.keep_all.ensures.kept.all.table c.args.into.now
    (below-grown s.all.table m.all.table (stays-on s w m c.is_broad.ensures.kept c.put_targets.ensures.kept).all.table c.args.into.now c.requires.here))

pub returns-clause-put : goal.returns-clause-put
returns-clause-put g c =
    let s = c.args.states.now in
    let w = c.is_broad.new.states in
    let m = c.put_targets.new.self in
    let u = c.keep_all.new.self in
    let raw = c.put_targets.new.into.items in
    let ks = c.keep_all.new.into.items in
    let new = c.put_all.new.into in
    let few : length raw ≤ most_states = omega (arith, c.len.ensures, c.if-len-gt-MOST_STATES.false) in
    let same = subst (λ (x : List ℕ). look u.all.table.processes ks ≡ map (kept_as (bodies_of m.all.bodies) m.deep) (look m.all.table.processes x)) c.deref.ensures.value c.in_ok-keep_all.ensures.same in
    let put = subst (λ (x : List ℕ). HasPut (look u.all.table.processes x) (look u.all.table.processes c.args.into.now) (look u.all.table.processes new)) c.deref-2.ensures.value
    (subst (λ (a : Numbered). HasPut (look a.table.processes c.deref-2.result.now) (look a.table.processes c.args.into.now) (look a.table.processes new)) c.all.ensures c.in_ok-put_all.ensures.put) in
    put-here s m u (stays-on s w m c.is_broad.ensures.kept c.put_targets.ensures.kept) c.keep_all.ensures.kept c.args.number c.args.label raw ks c.args.into.now new c.requires.number c.in_ok-put_targets.ensures.targets few same c.requires.here put

pub returns-clause-narrow : goal.returns-clause-narrow
returns-clause-narrow g c =
    let s = c.args.states.now in
    let w = c.is_broad.new.states in
    let m = c.put_targets.new.self in
    let u = c.keep_all.new.self in
    let raw = c.put_targets.new.into.items in
    let few : length raw ≤ most_states = omega (arith, c.len.ensures, c.if-len-gt-MOST_STATES.false) in
    narrow-here s m u (stays-on s w m c.is_broad.ensures.kept c.put_targets.ensures.kept) c.keep_all.ensures.kept c.args.number c.args.label raw c.keep_all.new.into.items c.args.into.now c.put_all.new.into c.requires.number c.in_ok-put_targets.ensures.targets few
