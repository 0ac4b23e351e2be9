use Rattle.std.proofs.Common.{◌≡◌, ℕ, List, true, false, ap, sym, subst, ◌∙◌}
use Rattle.alphabet.specs.EventSets.{has}
use Rattle.term.specs.Proc.{Proc}
use Rattle.targets.specs.Among.{Joined}
use Rattle.nodes.specs.Shapes.{at, set_at}
use Rattle.nodes.specs.Looks.{look}
use Rattle.nodes.specs.declared.places.Place.TheVariants.{ParRight}
use Rattle.nodes.proofs.Looking.{below-grown, each-grown}
use Rattle.nodes.proofs.Acting.{alone-acts, both-acts}
use Rattle.nodes.proofs.table.Table.put_par.Goals as goal

pub returns-then-contains-clause-cut : goal.returns-then-contains-clause-cut
returns-then-contains-clause-cut g c =
    let t = c.args.self.now in
    let u = c.put_parallels.new.self in
    let A = set_at t.parameters c.args.set in
    let y : has A c.args.event ≡ true = ap (λ (S : ℕ). has S c.args.event) (sym c.set.ensures) ∙ sym c.contains.ensures ∙ c.if-contains.true in
    record {
      here = c.in_ok-put_parallels.ensures.here;
      cut = both-acts c.args.event c.args.most (look t.processes c.args.into.now.items) (look u.processes c.put_parallels.new.into.items) (ap (look t.processes) c.requires.empty) A (at t.processes c.args.p) (at t.processes c.args.q) (look t.processes c.args.lefts.now) (look t.processes c.args.rights.now) y c.requires.lefts.cut c.requires.rights.cut c.in_ok-put_parallels.ensures.joined;
    }

pub put_each-requires-2-clause-parts : goal.put_each-requires-2-clause-parts
put_each-requires-2-clause-parts g c = below-grown c.args.self.now c.put_each.new.self c.put_each.ensures.grown c.args.rights.now c.requires.rights.here

pub returns-clause-cut : goal.returns-clause-cut
returns-clause-cut g c =
    let t = c.args.self.now in
    let u = c.put_each.new.self in
    let v = c.put_each-2.new.self in
    let most = c.args.most in
    let none = look t.processes c.args.into.now.items in
    let middle = look u.processes c.put_each.new.into.items in
    let found = look v.processes c.put_each-2.new.into.items in
    let A = set_at t.parameters c.args.set in
    let n : has A c.args.event ≡ false = ap (λ (S : ℕ). has S c.args.event) (sym c.set.ensures) ∙ sym c.contains.ensures ∙ c.if-contains.false in
    let second = each-grown t u c.put_each.ensures.grown (ParRight c.args.set c.args.p) c.args.rights.now (c.requires.set, c.requires.left) c.requires.rights.here in
    record {
      here = c.in_ok-put_each-2.ensures.here;
      cut = alone-acts c.args.event most none found (ap (look t.processes) c.requires.empty) A (at t.processes c.args.p) (at t.processes c.args.q) (look t.processes c.args.lefts.now) (look t.processes c.args.rights.now) middle n c.requires.lefts.cut c.requires.rights.cut
          c.in_ok-put_each.ensures.joined (subst (λ (l : List Proc). Joined most middle l found) second c.in_ok-put_each-2.ensures.joined);
    }
