use Rattle.std.proofs.Common.{◌∙◌, inl, inr, sym}
use Rattle.spaces.proofs.Ordering.{differs-by, first-decides, none-same}
use Rattle.spaces.proofs.offers.comes_before.Goals as goal

pub returns-in-Some-clause-before : goal.returns-in-Some-clause-before
returns-in-Some-clause-before c =
    λ small small' t.
    let d = differs-by c.args.set.now c.args.other.now c.minus.result c.minus-2.result c.union-apart.result c.iter.result c.minus.ensures c.minus-2.ensures c.union-apart.ensures c.iter.ensures in
    (first-decides c.args.set.now c.args.other.now c.iter.result small small' d c.in-Some.first c.next.new.self c.in-Some.ensures.steps).0 (sym c.contains.ensures ∙ t)

pub returns-in-Some-clause-after : goal.returns-in-Some-clause-after
returns-in-Some-clause-after c =
    λ small small' f.
    let d = differs-by c.args.set.now c.args.other.now c.minus.result c.minus-2.result c.union-apart.result c.iter.result c.minus.ensures c.minus-2.ensures c.union-apart.ensures c.iter.ensures in
    inr ((first-decides c.args.set.now c.args.other.now c.iter.result small small' d c.in-Some.first c.next.new.self c.in-Some.ensures.steps).1 (sym c.contains.ensures ∙ f))

pub returns-in-None-clause-after : goal.returns-in-None-clause-after
returns-in-None-clause-after c =
    λ small small' f.
    let d = differs-by c.args.set.now c.args.other.now c.minus.result c.minus-2.result c.union-apart.result c.iter.result c.minus.ensures c.minus-2.ensures c.union-apart.ensures c.iter.ensures in
    inl (none-same c.args.set.now c.args.other.now c.iter.result small small' d c.in-None.ensures.steps.0)
