use Rattle.std.proofs.Common.{ℕ, List, subst, arith}
use Rattle.transitions.specs.Lists.{MayHave, listed}
use Rattle.transitions.proofs.Listing.{put-more}
use Rattle.transitions.proofs.lists.Lists.put.Goals as goal

pub returns : goal.returns
returns g c =
    let l = c.self.inside in
    let more : MayHave (listed l.numbers.items l.places.entries) (listed c.extend_from_slice.new.self.items c.insert.new.self.entries) c.args.key c.args.list.now =
    put-more c.insert.result l.numbers.items c.args.list.now c.extend_from_slice.new.self.items l.places c.insert.new.self c.args.key c.len-from.result c.len-to.result
    c.in-Ok.ensures.items (omega arith) (omega arith) c.self.invariant c.insert.ensures.updates c.insert.ensures.err in
    subst (λ (es : List (ℕ × List ℕ)). MayHave es (listed c.extend_from_slice.new.self.items c.insert.new.self.entries) c.args.key c.args.list.now) c.self.view_is more
