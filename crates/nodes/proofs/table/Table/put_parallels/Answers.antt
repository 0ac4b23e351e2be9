use Rattle.std.proofs.Common.{◌≡◌, ℕ, ◌≤◌, ◌+◌, ◌++◌, List, length, map, take, get_or, sym, ap, subst, arith}
use Rattle.std.proofs.lemmas.List.{take_all}
use Rattle.term.specs.Proc.{Proc, par}
use Rattle.targets.specs.Targets.{pairs_of}
use Rattle.targets.specs.Among.{Joined}
use Rattle.nodes.specs.Shapes.{at, set_at}
use Rattle.nodes.specs.Looks.{look, around}
use Rattle.nodes.specs.declared.places.Place.TheVariants.{ParRight}
use Rattle.nodes.proofs.Putting.{grown-on}
use Rattle.nodes.proofs.Looking.{below-at, below-grown, place-grown, each-grown}
use Rattle.nodes.proofs.Joining.{joined-on, joined-to, pairs-more}
use Rattle.nodes.proofs.table.Table.put_parallels.Goals as goal

pub put_each-requires-clause-place : goal.put_each-requires-clause-place
put_each-requires-clause-place g c =
    let t = c.args.self.now in
    place-grown t c.loop-left.self c.loop-left.invariant.grown (ParRight c.args.set (get_or c.args.lefts.now c.loop-left.left-index 0))
    (c.requires.set, below-at (length t.processes) c.args.lefts.now c.loop-left.left-index 0 c.requires.lefts c.loop-left-test.true)

pub put_each-requires-clause-parts : goal.put_each-requires-clause-parts
put_each-requires-clause-parts g c = below-grown c.args.self.now c.loop-left.self c.loop-left.invariant.grown c.args.rights.now c.requires.rights

pub loop-left-preserved : goal.loop-left-preserved
loop-left-preserved g c =
    let t = c.args.self.now in
    let u = c.loop-left.self in
    let v = c.put_each.new.self in
    let inv = c.loop-left.invariant in
    let i = c.loop-left.left-index in
    let xs = c.args.lefts.now in
    let left = get_or xs i 0 in
    let most = c.args.most in
    let S = set_at t.parameters c.args.set in
    let ys = look t.processes c.args.rights.now in
    let place = ParRight c.args.set left in
    let within = below-at (length t.processes) xs i 0 c.requires.lefts c.loop-left-test.true in
    let row : map (around u place) (look u.processes c.args.rights.now) ≡ map (par S (at t.processes left)) ys =
    each-grown t u inv.grown place c.args.rights.now (c.requires.set, within) c.requires.rights in
    record {
      grown = grown-on t u v inv.grown c.put_each.ensures.grown;
      here = c.in_ok-put_each.ensures.here;
      joined = joined-to most (look t.processes c.args.into.now.items) (pairs_of (par S) (look t.processes (take i xs)) ys ++ map (par S (at t.processes left)) ys) (pairs_of (par S) (look t.processes (take (i + 1) xs)) ys) (look v.processes c.put_each.new.into.items)
          (sym (pairs-more (par S) t.processes xs i ys c.loop-left-test.true))
          (joined-on most (look t.processes c.args.into.now.items) (pairs_of (par S) (look t.processes (take i xs)) ys) (map (par S (at t.processes left)) ys) (look u.processes c.loop-left.into.items) (look v.processes c.put_each.new.into.items) inv.joined
          (subst (λ (l : List Proc). Joined most (look u.processes c.loop-left.into.items) l (look v.processes c.put_each.new.into.items)) row c.in_ok-put_each.ensures.joined));
    }

pub returns-clause-joined : goal.returns-clause-joined
returns-clause-joined g c =
    let t = c.args.self.now in
    let i = c.loop-left.left-index in
    let xs = c.args.lefts.now in
    let ys = look t.processes c.args.rights.now in
    let S = set_at t.parameters c.args.set in
    let h : length xs ≤ i = omega arith in
    joined-to c.args.most (look t.processes c.args.into.now.items) (pairs_of (par S) (look t.processes (take i xs)) ys) (pairs_of (par S) (look t.processes xs) ys) (look c.loop-left.self.processes c.loop-left.into.items)
    (ap (λ (l : List ℕ). pairs_of (par S) (look t.processes l) ys) (take_all i xs h)) c.loop-left.invariant.joined
