use Rattle.std.proofs.Common.{Option, ℕ, List, [], ◌∷◌, length, sym, ap, ◌∙◌, subst, arith, length-append}
use Rattle.nodes.specs.Copies.{ArePlaces}
use Rattle.nodes.specs.Shapes.{at}
use Rattle.nodes.specs.Tables.{IsNumber}
use Rattle.nodes.proofs.Putting.{grown-on}
use Rattle.nodes.proofs.Copying.{places-grown, places-push}
use Rattle.nodes.proofs.table.Table.put_wanted.Goals as goal

pub put_copy-requires-clause-places : goal.put_copy-requires-clause-places
put_copy-requires-clause-places g c =
    subst (λ (l : List (Option ℕ)). ArePlaces c.loop-number.self c.args.other.now.processes l) (sym c.deref.ensures.value) c.loop-number.invariant.places

pub loop-number-preserved : goal.loop-number-preserved
loop-number-preserved g c =
    let t = c.loop-number.self in
    let u = c.put_copy.new.self in
    let ps = c.args.other.now.processes in
    let places = c.loop-number.places.items in
    let o = c.in_ok-place.place in
    let inv = c.loop-number.invariant in
    record {
      grown = grown-on c.args.self.now t u inv.grown c.put_copy.ensures.grown;
      count = ap length c.in_ok-push.ensures.items ∙ omega (arith, inv.count, length-append places (o ∷ []));
      places = subst (λ (l : List (Option ℕ)). ArePlaces u ps l) (sym c.in_ok-push.ensures.items)
          (places-push u ps places o (places-grown t u ps places c.put_copy.ensures.grown inv.places)
          (λ n e. subst (λ (k : ℕ). IsNumber u n (at ps k)) (sym inv.count) (c.in_ok-place.ensures.number n e)));
    }
