use Rattle.std.proofs.Common.{◌≡◌, ◌∷◌, [], List, length, get_or, ap, subst, ◌∙◌, arith}
use Rattle.std.proofs.lemmas.List.{length-map}
use Rattle.term.specs.Proc.{Proc}
use Rattle.targets.specs.Among.{Joined}
use Rattle.nodes.specs.Shapes.{at}
use Rattle.nodes.specs.Looks.{look, around}
use Rattle.nodes.proofs.Putting.{grown-on}
use Rattle.nodes.proofs.Looking.{below-at, below-grown, place-grown, part-within, at-grown, look-grown, around-grown}
use Rattle.nodes.proofs.Joining.{each-more, each-full}
use Rattle.nodes.proofs.table.Table.put_each.Goals as goal

pub put-requires : goal.put-requires
put-requires g c =
    let t = c.args.self.now in
    let u = c.loop-part.self in
    let grown = c.loop-part.invariant.grown in
    let n = below-at (length t.processes) c.args.parts.now c.loop-part.part-index 0 c.requires.parts c.loop-part-test.true in
    c.node.ensures.within u (place-grown t u grown c.args.place c.requires.place) (part-within t u grown (get_or c.args.parts.now c.loop-part.part-index 0) n)

pub returns-then-len-most-clause-joined : goal.returns-then-len-most-clause-joined
returns-then-len-most-clause-joined g c =
    let t = c.args.self.now in
    let u = c.loop-part.self in
    let m = length-map c.loop-part.into.items (at u.processes) in
    each-full c.args.most (look t.processes c.args.into.now.items) (around t c.args.place) t.processes c.args.parts.now c.loop-part.part-index (look u.processes c.loop-part.into.items) (omega (arith, m)) c.loop-part.invariant.joined

pub add-requires-clause-here : goal.add-requires-clause-here
add-requires-clause-here g c = below-grown c.loop-part.self c.put.new.self c.put.ensures.grown c.loop-part.into.items c.loop-part.invariant.here

pub loop-part-preserved : goal.loop-part-preserved
loop-part-preserved g c =
    let t = c.args.self.now in
    let u = c.loop-part.self in
    let v = c.put.new.self in
    let inv = c.loop-part.invariant in
    let i = c.loop-part.part-index in
    let ns = c.args.parts.now in
    let part = get_or ns i 0 in
    let most = c.args.most in
    let s = c.in_ok-number.ensures.number in
    let within = below-at (length t.processes) ns i 0 c.requires.parts c.loop-part-test.true in
    let last : at v.processes c.in_ok-number.number ≡ around t c.args.place (at t.processes part) =
    s.is ∙ c.node.ensures.shape u ∙ around-grown t u inv.grown c.args.place (at u.processes part) c.requires.place ∙ ap (around t c.args.place) (at-grown t u inv.grown part within) in
    let same = look-grown u v c.put.ensures.grown c.loop-part.into.items inv.here in
    let one : Joined most (look u.processes c.loop-part.into.items) (around t c.args.place (at t.processes part) ∷ []) (look v.processes c.add.new.into.items) =
    subst (λ (l : List Proc). Joined most l (around t c.args.place (at t.processes part) ∷ []) (look v.processes c.add.new.into.items)) same
    (subst (λ (P : Proc). Joined most (look v.processes c.loop-part.into.items) (P ∷ []) (look v.processes c.add.new.into.items)) last c.in_ok-add.ensures.joined) in
    record {
      grown = grown-on t u v inv.grown c.put.ensures.grown;
      here = c.in_ok-add.ensures.here;
      joined = each-more most (look t.processes c.args.into.now.items) (around t c.args.place) t.processes ns i (look u.processes c.loop-part.into.items) (look v.processes c.add.new.into.items) c.loop-part-test.true inv.joined one;
    }
